use Rattle.std.proofs.Common.{◌==◌, arith, w8}
use Rattle.std.proofs.lemmas.Simd.{bitmask_splat}
use Rattle.lsp_walk.proofs.number_blocks.commas.Goals as goal

pub returns : goal.returns
returns c = bitmask_splat w8 (λ a b. a == b) c.args.block 16 44 c.requires (omega arith)
