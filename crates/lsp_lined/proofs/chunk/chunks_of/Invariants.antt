use Rattle.std.proofs.Common.{length, map}
use Rattle.lsp_lined.specs.Parts.{joined}
use Rattle.lsp_lined.proofs.Recuts.{AreChunked}
use Rattle.lsp_lined.proofs.chunk.chunks_of.Given as goal

abbrev pub invariant-loop-rest : goal.invariant-loop-rest
invariant-loop-rest g l =
    AreChunked l.chunks.items (map g.T.Part.text l.rest) (joined (map g.T.Part.text l.parts))

abbrev pub decreases-loop-rest : goal.decreases-loop-rest
decreases-loop-rest g l = length l.rest
