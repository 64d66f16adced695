use Rattle.lsp_explain.proofs.AllExplanations.{all_answer}
use Rattle.lsp_explain.proofs.laws.all_explained_answers_verdict.Goals as goal

pub returns : goal.returns
returns c = all_answer
