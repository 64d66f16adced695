use Rattle.std.proofs.Common.{◌≡◌, ◌+◌, drop}
use Rattle.lsp_text.specs.Changes.{edits_of}
use Rattle.lsp_trail.specs.SentEdits.{edits_size}
use Rattle.lsp_trail.proofs.base.size_of_changes.Given as goal

abbrev pub invariant-loop-change : goal.invariant-loop-change
invariant-loop-change l =
    l.size + edits_size (edits_of (drop l.change-index l.changes)) ≡ edits_size (edits_of l.changes)
