use Rattle.std.proofs.Common.{◌-◌}
use Rattle.lsp_text.specs.Parting.{AreSameEnds}
use Rattle.lsp_text.proofs.stretches.same_end.Given as goal

abbrev pub invariant-blocks-2 : goal.invariant-blocks-2
invariant-blocks-2 l = AreSameEnds l.a l.b l.same

abbrev pub decreases-blocks-2 : goal.decreases-blocks-2
decreases-blocks-2 l = l.both - l.same

abbrev pub invariant-bytes : goal.invariant-bytes
invariant-bytes l = AreSameEnds l.a l.b l.same

abbrev pub decreases-bytes : goal.decreases-bytes
decreases-bytes l = l.both - l.same
