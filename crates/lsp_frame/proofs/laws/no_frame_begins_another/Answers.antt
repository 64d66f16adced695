use Rattle.lsp_frame.proofs.Frames.{no_longer_frame}
use Rattle.lsp_frame.proofs.laws.no_frame_begins_another.Goals as goal

pub returns : goal.returns
returns c = no_longer_frame
