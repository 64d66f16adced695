use Rattle.lsp_frame.proofs.Fronts.{shown_stays}
use Rattle.lsp_frame.proofs.laws.front_stays.Goals as goal

pub returns : goal.returns
returns c = shown_stays
