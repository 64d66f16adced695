use Rattle.lsp_survey.proofs.SurveyRuns.{reports_survey}
use Rattle.lsp_survey.proofs.laws.report_is_of_survey.Goals as goal

pub returns : goal.returns
returns c = reports_survey
