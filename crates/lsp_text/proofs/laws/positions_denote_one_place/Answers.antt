use Rattle.lsp_text.proofs.Denoting.{one_place_at_most}
use Rattle.lsp_text.proofs.laws.positions_denote_one_place.Goals as goal

pub returns : goal.returns
returns c = one_place_at_most
