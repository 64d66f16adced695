use Rattle.std.proofs.Common.{length}
use Rattle.lsp_lined.proofs.CutPlaces.{IsCutSoFar}
use Rattle.lsp_lined.proofs.block.BlockSharedPart.cut.Given as goal

abbrev pub invariant-loop-rest : goal.invariant-loop-rest
invariant-loop-rest l = IsCutSoFar l.whole l.rest l.blocks.items

abbrev pub decreases-loop-rest : goal.decreases-loop-rest
decreases-loop-rest l = length l.rest
