use Rattle.std.specs.List.{find}
use Rattle.std.proofs.Common.{◌≡◌, List, drop}
use Rattle.lsp_trail.specs.Common.{Event, ons_view}
use Rattle.lsp_notes.specs.Spellings.{IsSought, is_sought}
use Rattle.lsp_notes.proofs.spellings.words_in.Given as goal

abbrev pub invariant-loop-on : goal.invariant-loop-on
invariant-loop-on l =
    (before : List Event) → IsSought before l.sought
    → find (is_sought before l.sought) (ons_view l.opened)
    ≡ find (is_sought before l.sought) (ons_view (drop l.on-index l.opened))
