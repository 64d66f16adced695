use Rattle.lsp_judge.proofs.JudgedRuns.{one_judging_output}
use Rattle.lsp_judge.proofs.laws.one_judging_output.Goals as goal

pub returns : goal.returns
returns c = one_judging_output
