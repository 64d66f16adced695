use Rattle.std.proofs.Common.{◌≡◌, ◌+◌, ◌-◌, drop, ap, ◌∙◌, arith}
use Rattle.std.proofs.lemmas.Grind.{common_steps}
use Rattle.std.proofs.lemmas.List.{length-drop}
use Rattle.json.specs.Lex.{lex, in_string}
use Rattle.lsp_walk.proofs.Strings.{content-after_high, short_after_high, len_utf8-le, slash_passed}
use Rattle.lsp_walk.proofs.texts.low_half.Goals as goal

pub returns-then-bytes-at-lt6-clause-value : goal.returns-then-bytes-at-lt6-clause-value
returns-then-bytes-at-lt6-clause-value c =
    grind (
      arith,
      common_steps,
      content-after_high c.args.bytes.now c.args.at c.args.high,
      short_after_high c.args.high (drop c.args.at c.args.bytes.now),
      length-drop c.args.at c.args.bytes.now,
    )

pub returns-in_err-low-clause-value : goal.returns-in_err-low-clause-value
returns-in_err-low-clause-value c =
    grind (
      arith,
      common_steps,
      content-after_high c.args.bytes.now c.args.at c.args.high
          (omega arith),
    )

pub returns-then-not-low-clause-value : goal.returns-then-not-low-clause-value
returns-then-not-low-clause-value c =
    grind (
      arith,
      common_steps,
      content-after_high c.args.bytes.now c.args.at c.args.high
          (omega arith),
    )

pub returns-clause-value : goal.returns-clause-value
returns-clause-value c =
    let last : c.args.at + 6 - 1 ≡ c.args.at + 2 + 3 = omega arith in (
      grind (arith, content-after_high c.args.bytes.now c.args.at c.args.high (omega arith)),
      omega arith,
      omega arith,
      omega (arith, len_utf8-le c.in_ok-c.c),
      rw last c.in_ok-low.ensures.bounds.1,
    )

pub returns-clause-passed : goal.returns-clause-passed
returns-clause-passed c =
    let d = c.args.bytes.now in
    let six : c.args.at + 2 + 4 ≡ c.args.at + 6 = omega arith in
    slash_passed d c.args.at (omega arith) (grind arith) ∙ c.in_ok-low.ensures.passed
    ∙ ap (λ k. lex in_string (drop k d)) six
