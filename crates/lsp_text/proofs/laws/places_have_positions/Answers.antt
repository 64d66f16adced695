use Rattle.lsp_text.proofs.Differing.PlacePositions.{places_have_positions}
use Rattle.lsp_text.proofs.laws.places_have_positions.Goals as goal

pub returns : goal.returns
returns c = places_have_positions
