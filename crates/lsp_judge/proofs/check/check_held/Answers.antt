use Rattle.lsp_verdict.specs.declared.completeness.Completeness.TheVariants.{Ignored}
use Rattle.lsp_judge.specs.JudgingRun.{a_report}
use Rattle.lsp_judge.proofs.Checking.{checked}
use Rattle.lsp_judge.proofs.JudgingRuns.{writes_verdict}
use Rattle.lsp_judge.proofs.check.check_held.Goals as goal

pub returns : goal.returns
returns g c = record {
  checked = checked Ignored c.args.limits _ _ c.pass.ensures.range
      (writes_verdict Ignored a_report c.args.limits c.pass.ensures.range _ _
      c.pass.ensures.passes);
}
