use Rattle.std.proofs.Common.{subst, sym}
use Rattle.lsp_verdict.specs.Shown.{EndsAs}
use Rattle.lsp_replay.proofs.text_answer.TextAnswer.stop.Goals as goal

pub returns : goal.returns
returns c = (
  c.in_ok-outcome.ensures.0,
  subst (EndsAs _) (sym c.in_ok-boxed.ensures.ok) c.in_ok-outcome.ensures.1,
)
