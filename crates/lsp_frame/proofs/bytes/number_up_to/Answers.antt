use Rattle.std.proofs.Common.{arith}
use Rattle.lsp_frame.proofs.Numbers.{number_more}
use Rattle.lsp_frame.proofs.bytes.number_up_to.Goals as goal

pub overflow_mul-number : goal.overflow_mul-number
overflow_mul-number c = omega (arith, c.loop-digit.invariant.within, c.requires.most)

pub overflow_add-number : goal.overflow_add-number
overflow_add-number c =
    let more = number_more c.args.digits.now c.loop-digit.digit-index c.requires.digits c.loop-digit-test.true in
    omega (arith, more.high, c.loop-digit.invariant.within, c.requires.most, c.from.ensures)

pub loop-digit-preserved : goal.loop-digit-preserved
loop-digit-preserved c =
    let more = number_more c.args.digits.now c.loop-digit.digit-index c.requires.digits c.loop-digit-test.true in
    record {
      value = omega (arith, more.value, more.low, c.loop-digit.invariant.value, c.from.ensures);
      within = omega arith;
    }

pub returns-then-number-most : goal.returns-then-number-most
returns-then-number-most c =
    let more = number_more c.args.digits.now c.loop-digit.digit-index c.requires.digits c.loop-digit-test.true in
    omega (arith, more.value, more.whole, more.low, c.loop-digit.invariant.value, c.from.ensures, c.if-number-most.true)
