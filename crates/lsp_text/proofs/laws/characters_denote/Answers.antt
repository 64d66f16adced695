use Rattle.lsp_text.proofs.Denoting.{characters_denote}
use Rattle.lsp_text.proofs.laws.characters_denote.Goals as goal

pub returns : goal.returns
returns c = characters_denote
