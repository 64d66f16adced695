use Rattle.lsp_extract.proofs.Framing.Outputs.{one_run_lem}
use Rattle.lsp_extract.proofs.stream_laws.one_run.Goals as goal

pub returns : goal.returns
returns c = one_run_lem
