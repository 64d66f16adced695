use Rattle.lsp_facts.proofs.WholeTexts as proved
use Rattle.lsp_facts.proofs.laws.whole_texts_are_json.Goals as goal

pub returns : goal.returns
returns c = proved.whole_texts_are_json
