use Rattle.lsp_extract.proofs.Framing.Outputs.{some_run_lem}
use Rattle.lsp_extract.proofs.stream_laws.some_run.Goals as goal

pub returns : goal.returns
returns c = some_run_lem
