use Rattle.std.proofs.Common.{arith}
use Rattle.json.specs.Text.{code_unit}
use Rattle.lsp_walk.proofs.Strings.{four_plain}
use Rattle.lsp_walk.proofs.texts.code_unit_at.Goals as goal

pub returns-then-a-b-clause-value : goal.returns-then-a-b-clause-value
unfolding code_unit
returns-then-a-b-clause-value c =
    rw (
      ← c.digit-a.ensures.value,
      ← c.digit-b.ensures.value,
      ← c.digit-c.ensures.value,
      ← c.digit-d.ensures.value,
    ) (grind arith)

pub returns-then-a-b-clause-passed : goal.returns-then-a-b-clause-passed
returns-then-a-b-clause-passed c =
    four_plain c.args.bytes.now c.args.at c.requires (c.digit-a.ensures.plain (grind arith))
    (c.digit-b.ensures.plain (grind arith)) (c.digit-c.ensures.plain (grind arith))
    (c.digit-d.ensures.plain (grind arith))

pub returns-else-a-b-clause-value : goal.returns-else-a-b-clause-value
unfolding code_unit
returns-else-a-b-clause-value c =
    rw (
      ← c.digit-a.ensures.value,
      ← c.digit-b.ensures.value,
      ← c.digit-c.ensures.value,
      ← c.digit-d.ensures.value,
    ) (grind arith)
