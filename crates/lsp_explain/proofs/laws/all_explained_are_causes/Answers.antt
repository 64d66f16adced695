use Rattle.lsp_explain.proofs.AllExplanations.{causes_are_explained}
use Rattle.lsp_explain.proofs.laws.all_explained_are_causes.Goals as goal

pub returns : goal.returns
returns c = causes_are_explained
