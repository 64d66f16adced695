use Rattle.lsp_facts.specs.Sentences.{rows}
use Rattle.lsp_facts.proofs.sentences.push_sentence.Goals as goal

pub returns : goal.returns
unfolding rows
returns c = c.push_by.ensures
