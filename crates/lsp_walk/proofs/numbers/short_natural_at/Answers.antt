use Rattle.std.proofs.Common.{refl}
use Rattle.lsp_walk.proofs.ShortNumerals.{ends_at, few_natural, few_fits}
use Rattle.lsp_walk.proofs.numbers.short_natural_at.Goals as goal

pub returns-then-is_integer-clause-read : goal.returns-then-is_integer-clause-read
returns-then-is_integer-clause-read c = λ may.
    let d = c.args.bytes.now in
    let end = c.few_digits-n.result.1 in
    let is = c.if-is_integer.ensures in
    few_natural d c.args.from end _ c.few_digits-n.ensures (is.some refl) (is.short refl)
    (is.first refl) (ends_at d end may).1

pub returns-then-is_integer-clause-fits : goal.returns-then-is_integer-clause-fits
returns-then-is_integer-clause-fits c =
    few_fits c.args.bytes.now c.args.from c.few_digits-n.result.1 _ c.few_digits-n.ensures
