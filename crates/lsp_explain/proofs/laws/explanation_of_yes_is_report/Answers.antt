use Rattle.lsp_explain.proofs.Explanations.{yes_is_report}
use Rattle.lsp_explain.proofs.laws.explanation_of_yes_is_report.Goals as goal

pub returns : goal.returns
returns c = yes_is_report
