use Rattle.std.proofs.Common.{sym, subst, arith}
use Rattle.lsp_walk.specs.Walk.{IsNatural}
use Rattle.lsp_walk.proofs.numbers.natural_at.Goals as goal

pub returns-in-Some : goal.returns-in-Some
returns-in-Some c =
    subst (IsNatural c.args.bytes.now c.args.from c.in-Some.end) (sym c.from.ensures)
    (c.in-Some.ensures.read (grind arith))
