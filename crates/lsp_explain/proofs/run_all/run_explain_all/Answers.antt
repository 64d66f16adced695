use Rattle.lsp_explain.proofs.QuietRuns.{all_quiet}
use Rattle.lsp_explain.proofs.run_all.run_explain_all.Goals as goal

pub pass_in-requires : goal.pass_in-requires
pass_in-requires g c = record {
  begins = c.new-account.ensures.stands;
  quiet = all_quiet c.new-account.result.completeness;
}

pub returns : goal.returns
returns g c = record { passes = rw c.new-account.ensures.completeness at c.pass_in.ensures.passes }
