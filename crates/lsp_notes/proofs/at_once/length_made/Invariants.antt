use Rattle.std.specs.Prelude.{option_map}
use Rattle.std.proofs.Common.{◌≡◌, ◌≤◌, ◌+◌, drop}
use Rattle.lsp_notes.specs.AtOnce.{length_from, splices_view}
use Rattle.lsp_notes.proofs.at_once.length_made.Given as goal

abbrev pub invariant-loop-splice : goal.invariant-loop-splice
invariant-loop-splice l =
    (l.here ≤ l.len)
    × (option_map (λ n. l.made + n) (length_from l.here l.len (splices_view
    (drop l.splice-index l.splices))) ≡ length_from 0 l.len (splices_view l.splices))
