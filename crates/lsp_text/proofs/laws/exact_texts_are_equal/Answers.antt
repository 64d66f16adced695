use Rattle.lsp_text.proofs.SameTexts.{exact_texts}
use Rattle.lsp_text.proofs.laws.exact_texts_are_equal.Goals as goal

pub returns : goal.returns
returns c = exact_texts
