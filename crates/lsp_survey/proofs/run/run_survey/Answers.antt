use Rattle.lsp_survey.proofs.Quiet.{survey_quiet}
use Rattle.lsp_survey.proofs.run.run_survey.Goals as goal

pub pass_in-requires : goal.pass_in-requires
pass_in-requires g c = record {
  begins = c.new-account.ensures.stands;
  quiet = survey_quiet c.new-account.result.options;
}

pub returns : goal.returns
returns g c = record { passes = rw c.new-account.ensures.options at c.pass_in.ensures.passes }
