use Rattle.lsp_judge.specs.JudgingRun.{a_line}
use Rattle.lsp_judge.proofs.JudgingRuns.{writes_verdict}
use Rattle.lsp_judge.proofs.check_line.run_check_line.Goals as goal

pub returns : goal.returns
returns g c = record {
  checked = writes_verdict c.args.completeness (a_line c.args.name.now) c.args.limits
      c.pass.ensures.range _ _ c.pass.ensures.passes;
}
