use Rattle.lsp_frame.proofs.Readings.{some_stream}
use Rattle.lsp_frame.proofs.laws.some_reading.Goals as goal

pub returns : goal.returns
returns c = some_stream
