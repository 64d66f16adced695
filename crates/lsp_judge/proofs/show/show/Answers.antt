use Rattle.lsp_judge.proofs.JudgingRuns.{showed}
use Rattle.lsp_judge.proofs.show.show.Goals as goal

pub returns : goal.returns
returns g c = record {
  showed = showed c.args.lines c.args.limits c.pass.ensures.range _ _ c.pass.ensures.passes;
}
