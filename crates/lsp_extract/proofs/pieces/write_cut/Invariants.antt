use Rattle.std.proofs.Common.{◌+◌, ◌++◌, length}
use Rattle.lsp_frame.proofs.Writing.{HasPut}
use Rattle.lsp_extract.proofs.Forming.Pieces.{due}
use Rattle.lsp_extract.proofs.pieces.write_cut.Given as goal

abbrev pub invariant-loop-front : goal.invariant-loop-front
invariant-loop-front g l =
    HasPut
    (g.W.Sink.told l.fn.writer)
    (g.W.Sink.told l.writer)
    (due l.size l.side (l.fn.front ++ l.fn.back))
    (due l.size l.side (l.front ++ l.back))

abbrev pub decreases-loop-front : goal.decreases-loop-front
decreases-loop-front g l = length l.front + length l.back
