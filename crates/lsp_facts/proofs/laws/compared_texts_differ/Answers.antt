use Rattle.lsp_facts.proofs.TextsDiffer.{texts_differ}
use Rattle.lsp_facts.proofs.laws.compared_texts_differ.Goals as goal

pub returns : goal.returns
returns c = texts_differ
