use Rattle.std.proofs.Common.{◌+◌, drop, refl, ap, ◌∙◌, arith}
use Rattle.lsp_walk.proofs.DigitBlocks.{same_run}
use Rattle.lsp_walk.proofs.ShortNumerals.{ends_at, short_numeral}
use Rattle.lsp_walk.proofs.numbers.end_past_digits.Goals as goal

pub returns-then-is_delimiter : goal.returns-then-is_delimiter
returns-then-is_delimiter c =
    let d = c.args.bytes.now in
    let from = c.args.from in
    let end = c.args.end in
    let run = c.requires.digits ∙ ap (λ n. from + n) (same_run (drop from d)) in
    let is = c.if-is_integer.ensures in
    short_numeral d from end run (is.some refl) (is.short refl) (is.first refl)
    (ends_at d end (grind arith)).1 c.requires.within.1
