use denote.Shadow.{shadow}
use denote.Text.{Utf8}
use Rattle.std.specs.Prelude.{string_bytes}
use Rattle.std.specs.Str.{chars}
use Rattle.std.proofs.Common.{drop}
use Rattle.lsp_notes.specs.AtOnce.{made_from, splices_view}
use Rattle.lsp_notes.proofs.AtOnceSteps.{IsSoFar}
use Rattle.lsp_notes.proofs.at_once.made_of.Given as goal

abbrev pub invariant-loop-splice : goal.invariant-loop-splice
invariant-loop-splice l =
    shadow (Utf8 l.rest)
    × IsSoFar (made_from 0 (chars l.whole) (splices_view l.splices)) (string_bytes l.made) l.here
    l.rest (splices_view (drop l.splice-index l.splices))
