use Rattle.std.proofs.Common.{map}
use Rattle.lsp_lined.proofs.Backs.{IsBackAt}
use Rattle.lsp_lined.proofs.part.same_back_in.Given as goal

abbrev pub invariant-loop-start : goal.invariant-loop-start
invariant-loop-start g l =
    IsBackAt (map g.T.Part.text l.parts) l.other l.from l.index l.start l.same

abbrev pub decreases-loop-start : goal.decreases-loop-start
decreases-loop-start g l = l.index
