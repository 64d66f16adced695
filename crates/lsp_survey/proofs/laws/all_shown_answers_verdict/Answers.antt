use Rattle.lsp_survey.proofs.Showing.{shown}
use Rattle.lsp_survey.proofs.SurveyRuns.{survey_answers}
use Rattle.lsp_survey.proofs.laws.all_shown_answers_verdict.Goals as goal

pub returns : goal.returns
returns c = λ lines. survey_answers (shown lines)
