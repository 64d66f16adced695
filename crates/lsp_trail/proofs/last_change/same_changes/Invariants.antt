use Rattle.std.proofs.Common.{◌≡◌, length}
use Rattle.lsp_text.specs.Changes.{edits_of}
use Rattle.lsp_trail.specs.LastChange.{same_edits}
use Rattle.lsp_trail.proofs.last_change.same_changes.Given as goal

abbrev pub invariant-loop-first : goal.invariant-loop-first
invariant-loop-first l =
    same_edits (edits_of l.changes) (edits_of l.others)
    ≡ same_edits (edits_of l.first) (edits_of l.second)

abbrev pub decreases-loop-first : goal.decreases-loop-first
decreases-loop-first l = length l.first
