use Rattle.std.proofs.Common.{eqb, arith, w8}
use Rattle.std.proofs.lemmas.Simd.{bitmask_splat}
use Rattle.lsp_lined.proofs.MarkedPlaces.{marked_by}
use Rattle.lsp_lined.proofs.marks.marks_in.Goals as goal

pub returns : goal.returns
returns c =
    let bs = c.args.block in
    marked_by bs _ _ (bitmask_splat w8 eqb bs 64 10 c.requires (omega arith)) (bitmask_splat w8 eqb bs 64 13 c.requires (omega arith))
