use Rattle.lsp_judge.specs.JudgingRun.{an_object}
use Rattle.lsp_judge.proofs.JudgingRuns.{writes_verdict}
use Rattle.lsp_judge.proofs.check_object.run_check_object.Goals as goal

pub returns : goal.returns
returns g c = record {
  checked = writes_verdict c.args.completeness (an_object c.args.file.now) c.args.limits
      c.pass.ensures.range _ _ c.pass.ensures.passes;
}
