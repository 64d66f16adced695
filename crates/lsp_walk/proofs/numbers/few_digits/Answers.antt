use Rattle.std.proofs.Common.{◌≡◌, ◌+◌, get_or, true, sym, arith}
use Rattle.std.proofs.lemmas.Str.{digit_value_digit}
use Rattle.std.specs.Char.{digit_value, is_ascii_digit}
use Rattle.lsp_walk.proofs.ShortNumerals.{few_below, one_digit_more}
use Rattle.lsp_walk.proofs.numbers.few_digits.Goals as goal

pub overflow_mul-n : goal.overflow_mul-n
overflow_mul-n c =
    omega (
      arith,
      few_below c.args.bytes.now c.args.from c.digits.end c.digits.n c.digits.invariant
          (omega arith),
    )

pub overflow_add-n : goal.overflow_add-n
overflow_add-n c =
    omega (
      arith,
      few_below c.args.bytes.now c.args.from c.digits.end c.digits.n c.digits.invariant
          (omega arith),
      c.from.ensures,
    )

pub digits-preserved : goal.digits-preserved
digits-preserved c =
    let d = c.args.bytes.now in
    let end = c.digits.end in
    let is = c.if-is_ascii_digit.ensures in
    let digit : is_ascii_digit (get_or d end 0) ≡ true = sym is.value in
    let last : digit_value (get_or d end 0) + 48 ≡ get_or d end 0 =
    digit_value_digit (get_or d end 0) is.cases in
    one_digit_more d c.args.from end c.digits.n _ c.digits.invariant (omega arith) (omega arith)
    digit (omega (arith, last, c.from.ensures))
