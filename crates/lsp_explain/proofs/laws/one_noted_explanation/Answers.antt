use Rattle.lsp_explain.proofs.OneExplanation as proved
use Rattle.lsp_explain.proofs.laws.one_noted_explanation.Goals as goal

pub returns : goal.returns
returns c = proved.one_noted_explanation
