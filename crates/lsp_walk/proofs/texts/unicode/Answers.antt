use Rattle.std.proofs.Common.{◌≡◌, ◌+◌, ◌-◌, drop, arith}
use Rattle.std.proofs.lemmas.List.{length-drop}
use Rattle.lsp_walk.proofs.Strings.{content-after_u, short_after_u, len_utf8-le}
use Rattle.lsp_walk.proofs.texts.unicode.Goals as goal

pub returns-then-bytes-at-lt4-clause-value : goal.returns-then-bytes-at-lt4-clause-value
returns-then-bytes-at-lt4-clause-value c =
    short_after_u (drop c.args.at c.args.bytes.now)
    (omega (arith, length-drop c.args.at c.args.bytes.now))

pub returns-in_err-unit-clause-value : goal.returns-in_err-unit-clause-value
returns-in_err-unit-clause-value c =
    grind (arith, content-after_u c.args.bytes.now c.args.at (omega arith))

pub returns-then-unit-clause-value : goal.returns-then-unit-clause-value
returns-then-unit-clause-value c =
    grind (arith, content-after_u c.args.bytes.now c.args.at (omega arith))

pub returns-in_err-c-clause-value : goal.returns-in_err-c-clause-value
returns-in_err-c-clause-value c =
    grind (arith, content-after_u c.args.bytes.now c.args.at (omega arith))

pub returns-clause-value : goal.returns-clause-value
returns-clause-value c =
    let last : c.args.at + 4 - 1 ≡ c.args.at + 3 = omega arith in (
      grind (arith, content-after_u c.args.bytes.now c.args.at (omega arith)),
      omega arith,
      omega arith,
      omega (arith, len_utf8-le c.in_ok-c.c),
      rw last c.in_ok-unit.ensures.bounds.1,
    )
