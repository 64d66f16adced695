use Rattle.lsp_explain.proofs.Explanations.{begins_with_report}
use Rattle.lsp_explain.proofs.laws.explanation_begins_with_report.Goals as goal

pub returns : goal.returns
returns c = begins_with_report
