use Rattle.lsp_survey.proofs.Showing.{shows_report}
use Rattle.lsp_survey.proofs.laws.all_shown_is_report.Goals as goal

pub returns : goal.returns
returns c = shows_report
