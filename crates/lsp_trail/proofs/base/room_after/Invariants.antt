use Rattle.std.proofs.Common.{◌≡◌, ◌+◌, drop}
use Rattle.lsp_text.specs.Changes.{edits_of}
use Rattle.lsp_trail.specs.SentEdits.{edits_size}
use Rattle.lsp_trail.proofs.base.room_after.Given as goal

abbrev pub invariant-loop-change : goal.invariant-loop-change
invariant-loop-change l =
    l.left + edits_size (edits_of l.changes)
    ≡ l.fn.room + edits_size (edits_of (drop l.change-index l.changes))
