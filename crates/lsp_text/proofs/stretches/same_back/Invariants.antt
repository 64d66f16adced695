use Rattle.lsp_text.specs.Parting.{AreSameEnds}
use Rattle.lsp_text.proofs.stretches.same_back.Given as goal

abbrev pub invariant-loop-same : goal.invariant-loop-same
invariant-loop-same l = AreSameEnds l.a l.b l.same

abbrev pub decreases-loop-same : goal.decreases-loop-same
decreases-loop-same l = l.same
