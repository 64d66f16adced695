use Rattle.lsp_explain.proofs.AllExplanations.{noted_answer}
use Rattle.lsp_explain.proofs.laws.noted_explanation_answers_verdict.Goals as goal

pub returns : goal.returns
returns c = noted_answer
