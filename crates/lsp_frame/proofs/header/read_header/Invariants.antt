use Rattle.std.proofs.Common.{length}
use Rattle.lsp_frame.proofs.HeaderLoop.{HasRead}
use Rattle.lsp_frame.proofs.header.read_header.Given as goal

abbrev pub invariant-loop-rest : goal.invariant-loop-rest
invariant-loop-rest l = HasRead l.header l.rest l.lengths l.fits

abbrev pub decreases-loop-rest : goal.decreases-loop-rest
decreases-loop-rest l = length l.rest
