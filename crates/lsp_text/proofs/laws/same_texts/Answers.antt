use Rattle.lsp_text.proofs.SameTexts.{same_texts}
use Rattle.lsp_text.proofs.laws.same_texts.Goals as goal

pub returns : goal.returns
returns c = same_texts
