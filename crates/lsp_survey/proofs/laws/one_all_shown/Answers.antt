use Rattle.lsp_survey.proofs.Showing.{shown}
use Rattle.lsp_survey.proofs.SurveyRuns.{one_survey_output}
use Rattle.lsp_survey.proofs.laws.one_all_shown.Goals as goal

pub returns : goal.returns
returns c = λ lines. one_survey_output (shown lines)
