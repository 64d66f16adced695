use Rattle.std.proofs.Common.{subst}
use Rattle.std.specs.Str.{IsUtf8}
use Rattle.lsp_lined.proofs.Parts.{IsUtf8-joined}
use Rattle.lsp_lined.proofs.chunk.ChunkPart.sums.Goals as goal

pub returns-clause-utf8 : goal.returns-clause-utf8
returns-clause-utf8 g c = subst IsUtf8 c.self.view_is (IsUtf8-joined _ c.self.invariant.kept.parts)
