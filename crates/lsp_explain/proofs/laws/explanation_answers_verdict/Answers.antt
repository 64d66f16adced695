use Rattle.lsp_explain.proofs.Explanations.{explanation_answers}
use Rattle.lsp_explain.proofs.laws.explanation_answers_verdict.Goals as goal

pub returns : goal.returns
returns c = explanation_answers
