use Rattle.std.proofs.Common.{◌+◌, arith}
use Rattle.std.proofs.lemmas.Simd.{length-chunk}
use Rattle.lsp_text.proofs.Blocks.{none_passed, pair_passed}
use Rattle.lsp_text.proofs.columns.pass_pairs.Goals as goal

pub units_in_both-width-requires-clause-first : goal.units_in_both-width-requires-clause-first
units_in_both-width-requires-clause-first c =
    length-chunk c.loop-at.at 32 c.args.bytes.now (omega (arith, c.loop-at-test.true))

pub units_in_both-width-requires-clause-second : goal.units_in_both-width-requires-clause-second
units_in_both-width-requires-clause-second c =
    length-chunk (c.loop-at.at + 32) 32 c.args.bytes.now (omega (arith, c.loop-at-test.true))

pub loop-at-init : goal.loop-at-init
loop-at-init c = none_passed c.args.encoding c.args.bytes.now c.args.column

pub loop-at-preserved : goal.loop-at-preserved
loop-at-preserved c =
    pair_passed c.args.encoding c.args.bytes.now c.args.column c.loop-at.at c.loop-at.left
    c.units_in_both-width.result c.loop-at.invariant c.loop-at-test.true
    c.units_in_both-width.ensures (omega arith)
