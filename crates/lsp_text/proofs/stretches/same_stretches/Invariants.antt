use Rattle.std.proofs.Common.{◌-◌}
use Rattle.lsp_text.specs.Parting.{AreSameTo}
use Rattle.lsp_text.proofs.stretches.same_stretches.Given as goal

abbrev pub invariant-loop-at : goal.invariant-loop-at
invariant-loop-at l = AreSameTo l.a l.b l.at

abbrev pub decreases-loop-at : goal.decreases-loop-at
decreases-loop-at l = l.both - l.at
