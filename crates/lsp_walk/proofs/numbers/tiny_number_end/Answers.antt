use Rattle.std.proofs.Common.{arith}
use Rattle.std.proofs.lemmas.Bool.{ne_eqb}
use Rattle.lsp_walk.proofs.ShortNumerals.{one_digit, two_digits}
use Rattle.lsp_walk.proofs.numbers.tiny_number_end.Goals as goal

pub returns-then-second-eq44-clause-number : goal.returns-then-second-eq44-clause-number
returns-then-second-eq44-clause-number c =
    one_digit c.args.bytes.now c.args.from (grind arith) (grind arith)

pub returns-clause-number : goal.returns-clause-number
returns-clause-number c =
    two_digits c.args.bytes.now c.args.from (grind arith) (ne_eqb _ 48 (λ e. grind arith))
    (grind arith) (grind arith)
