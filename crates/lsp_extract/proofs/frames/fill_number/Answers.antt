use Rattle.std.proofs.Common.{arith, rules}
use Rattle.std.proofs.lemmas.Fmt.{length-decimal-le}
use Rattle.lsp_extract.proofs.frames.fill_number.Goals as goal

pub write_digits-requires : goal.write_digits-requires
write_digits-requires c = search (rules, length-decimal-le 20)

pub returns-clause-start : goal.returns-clause-start
returns-clause-start c =
    let fits = c.ranges.number.fits in
    let short = length-decimal-le 20 c.args.number (omega arith) (omega (arith, fits)) fits in (
      omega (arith, c.write_digits.ensures.start, short),
      omega (arith, c.write_digits.ensures.start),
    )
