use Rattle.lsp_explain.proofs.AllExplanations.{first_is_verdict}
use Rattle.lsp_explain.proofs.laws.first_explained_is_verdict.Goals as goal

pub returns : goal.returns
returns c = first_is_verdict
