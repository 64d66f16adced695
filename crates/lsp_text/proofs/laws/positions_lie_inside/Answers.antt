use Rattle.lsp_text.proofs.Differing.InsideCharacter.{positions_lie_inside}
use Rattle.lsp_text.proofs.laws.positions_lie_inside.Goals as goal

pub returns : goal.returns
returns c = positions_lie_inside
