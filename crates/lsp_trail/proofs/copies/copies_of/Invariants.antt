use Rattle.std.proofs.Common.{◌≡◌, take}
use Rattle.lsp_text.specs.Changes.{edits_of}
use Rattle.lsp_trail.proofs.copies.copies_of.Given as goal

abbrev pub invariant-loop-change : goal.invariant-loop-change
invariant-loop-change l = edits_of l.copies.items ≡ edits_of (take l.change-index l.changes)
