use Rattle.std.proofs.Common.{None}
use Rattle.lsp_survey.proofs.SurveyRuns.{survey_answers}
use Rattle.lsp_survey.proofs.laws.report_answers_verdict.Goals as goal

pub returns : goal.returns
returns c = λ completeness listing.
    survey_answers (record { completeness = completeness; listing = listing; lines = None })
