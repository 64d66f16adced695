use Rattle.std.proofs.Common.{arith}
use Rattle.std.proofs.lemmas.Simd.{length-chunk}
use Rattle.lsp_text.proofs.Blocks.{block_passed}
use Rattle.lsp_text.proofs.columns.pass_blocks.Goals as goal

pub units_in-width-requires : goal.units_in-width-requires
units_in-width-requires c = length-chunk c.loop-at.at 32 c.args.bytes.now c.loop-at-test.true

pub loop-at-init : goal.loop-at-init
loop-at-init c = c.pass_pairs-passed.ensures

pub loop-at-preserved : goal.loop-at-preserved
loop-at-preserved c =
    block_passed c.args.encoding c.args.bytes.now c.args.column c.loop-at.at c.loop-at.left c.units_in-width.result c.loop-at.invariant c.loop-at-test.true c.units_in-width.ensures (omega arith)
