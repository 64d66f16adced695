use Rattle.std.proofs.Common.{refl}
use Rattle.lsp_judge.proofs.JudgingSteps.{verdict_closes}
use Rattle.lsp_judge.proofs.judging.JudgingAccount.end.Goals as goal

pub returns : goal.returns
returns c = record {
  closes = λ terms heard clean stood few.
      verdict_closes _ terms heard _ _ _ _ _ _ stood few clean c.in_ok-verdict.ensures _ _ _ refl
      c.in_ok-say.ensures;
}
