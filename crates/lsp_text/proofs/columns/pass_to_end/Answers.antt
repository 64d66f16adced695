use Rattle.std.proofs.Common.{◌+◌, ◌-◌, arith}
use Rattle.std.proofs.lemmas.Simd.{length-chunk}
use Rattle.lsp_text.proofs.Blocks.{last_passed, pair_behind}
use Rattle.lsp_text.proofs.columns.pass_to_end.Goals as goal

pub units_in_both-behind-requires-clause-first : goal.units_in_both-behind-requires-clause-first
units_in_both-behind-requires-clause-first c =
    length-chunk (c.loop-behind.at - 64) 32 c.args.bytes.now
    (omega (arith, c.if-at-lt64.false, c.loop-behind.invariant.within))

pub units_in_both-behind-requires-clause-second : goal.units_in_both-behind-requires-clause-second
units_in_both-behind-requires-clause-second c =
    length-chunk (c.loop-behind.at - 64 + 32) 32 c.args.bytes.now
    (omega (arith, c.if-at-lt64.false, c.loop-behind.invariant.within))

pub loop-behind-init : goal.loop-behind-init
loop-behind-init c = last_passed c.args.encoding c.args.bytes.now c.args.width c.requires.width

pub loop-behind-preserved : goal.loop-behind-preserved
loop-behind-preserved c =
    pair_behind c.args.encoding c.args.bytes.now c.args.width c.loop-behind.at c.loop-behind.behind
    c.units_in_both-behind.result c.loop-behind.invariant c.if-at-lt64.false
    c.units_in_both-behind.ensures

pub overflow_add-behind : goal.overflow_add-behind
overflow_add-behind c =
    let more = pair_behind c.args.encoding c.args.bytes.now c.args.width c.loop-behind.at
    c.loop-behind.behind c.units_in_both-behind.result c.loop-behind.invariant c.if-at-lt64.false
    c.units_in_both-behind.ensures in
    record { fits = omega (arith, more.left_is, c.ranges.width.fits) }
