use Rattle.lsp_judge.proofs.JudgedRuns.{judging_answers}
use Rattle.lsp_judge.proofs.laws.judging_answers_verdict.Goals as goal

pub returns : goal.returns
returns c = judging_answers
