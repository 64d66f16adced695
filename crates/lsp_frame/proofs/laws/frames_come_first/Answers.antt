use Rattle.lsp_frame.proofs.Frames.{frames_first}
use Rattle.lsp_frame.proofs.laws.frames_come_first.Goals as goal

pub returns : goal.returns
returns c = frames_first
