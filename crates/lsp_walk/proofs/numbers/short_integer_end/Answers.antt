use Rattle.std.proofs.Common.{◌+◌, drop, refl, ap, ◌∙◌}
use Rattle.lsp_walk.proofs.DigitBlocks.{same_run}
use Rattle.lsp_walk.proofs.ShortNumerals.{ends_at, short_numeral}
use Rattle.lsp_walk.proofs.numbers.short_integer_end.Goals as goal

pub returns-then-is_integer-clause-number : goal.returns-then-is_integer-clause-number
returns-then-is_integer-clause-number c = λ may.
    let d = c.args.bytes.now in
    let from = c.args.from in
    let read = c.in_ok-end in
    let run = read.ensures.value ∙ ap (λ n. from + n) (same_run (drop from d)) in
    let is = c.if-is_integer.ensures in
    short_numeral d from read.end run (is.some refl) (is.short refl) (is.first refl)
    (ends_at d read.end may).1 read.ensures.within
