use Rattle.std.proofs.Common.{None}
use Rattle.lsp_survey.proofs.SurveyRuns.{one_survey_output}
use Rattle.lsp_survey.proofs.laws.one_report.Goals as goal

pub returns : goal.returns
returns c = λ completeness listing.
    one_survey_output (record { completeness = completeness; listing = listing; lines = None })
