use Rattle.std.proofs.Common.{◌≡◌, length}
use Rattle.lsp_notes.specs.TextsSince.{have_overlap}
use Rattle.lsp_notes.proofs.texts_since.have_overlap.Given as goal

abbrev pub invariant-loop-left : goal.invariant-loop-left
invariant-loop-left l = have_overlap l.stretches ≡ have_overlap l.left

abbrev pub decreases-loop-left : goal.decreases-loop-left
decreases-loop-left l = length l.left
