use Rattle.std.proofs.Common.{◌≡◌, refl, arith}
use Rattle.lsp_walk.specs.Walk.{part}
use Rattle.lsp_walk.proofs.ShortNumerals.{some_numeral}
use Rattle.lsp_walk.proofs.numbers.any_number_end.Goals as goal

pub returns-then-is_in_range : goal.returns-then-is_in_range
returns-then-is_in_range c =
    let d = c.args.bytes.now in
    let end = c.in_ok-end.end in
    let same : c.in_ok-digits.digits.now ≡ part d c.args.from end = grind arith in
    some_numeral d c.args.from end _ same (c.if-is_number.ensures.0 refl)
    (c.is_in_range.ensures (grind arith)) c.in_ok-end.ensures.forward c.in_ok-end.ensures.ended
