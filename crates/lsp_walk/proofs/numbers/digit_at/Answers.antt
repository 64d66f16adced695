use Rattle.std.proofs.Common.{◌≡◌, ◌||◌, ◌+◌, get_or, true, sym, ap, ◌∙◌, arith}
use Rattle.std.proofs.lemmas.Str.{digit_value_digit}
use Rattle.std.specs.Char.{digit_value, is_ascii_digit}
use Rattle.json.specs.Word.{is_operator, is_space}
use Rattle.lsp_walk.proofs.ShortNumerals.{digit_natural}
use Rattle.lsp_walk.proofs.numbers.digit_at.Goals as goal

pub returns-clause-read : goal.returns-clause-read
returns-clause-read c =
    let d = c.args.bytes.now in
    let from = c.args.from in
    let there = c.byte_at-digit.ensures in
    let is = c.if-not-is_ascii_digit.ensures in
    let digit : is_ascii_digit (get_or d from 0) ≡ true =
    ap is_ascii_digit (sym there) ∙ sym is.value in
    let last = digit_value_digit c.byte_at-digit.result is.cases in
    let value = ap digit_value there in
    let ended : (is_operator (get_or d (from + 1) 0) || is_space (get_or d (from + 1) 0)) ≡ true =
    ap (λ x. is_operator x || is_space x) (sym c.byte_at.ensures)
    ∙ c.is_delimiter.ensures c.if-not-is_delimiter.false in
    digit_natural d from c.from.result digit (omega (arith, last, value, c.from.ensures)) ended
