use Rattle.lsp_explain.proofs.QuietRuns.{noted_quiet}
use Rattle.lsp_explain.proofs.run_noted.run_explain_noted.Goals as goal

pub pass_in-requires : goal.pass_in-requires
pass_in-requires g c = record {
  begins = c.new-account.ensures.stands;
  quiet = noted_quiet c.new-account.result.causes.completeness;
}

pub returns : goal.returns
returns g c = record { passes = rw c.new-account.ensures.completeness at c.pass_in.ensures.passes }
