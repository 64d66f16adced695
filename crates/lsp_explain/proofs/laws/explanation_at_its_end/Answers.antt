use Rattle.lsp_explain.specs.ExplainRuns.{explain_run}
use Rattle.lsp_explain.proofs.Explanations.{quiet}
use Rattle.lsp_replay.proofs.RunLaws.{writes_at_its_end}
use Rattle.lsp_explain.proofs.laws.explanation_at_its_end.Goals as goal

pub returns : goal.returns
returns c = λ completeness.
    writes_at_its_end (explain_run completeness) (quiet completeness)
