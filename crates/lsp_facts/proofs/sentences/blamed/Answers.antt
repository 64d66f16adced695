use Rattle.lsp_facts.specs.Sentences.{blames}
use Rattle.lsp_facts.proofs.sentences.blamed.Goals as goal

pub returns : goal.returns
unfolding blames
returns c = c.blamed_by.ensures
