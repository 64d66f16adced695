use Rattle.lsp_verdict.proofs.Logs as proved
use Rattle.lsp_verdict.proofs.laws.events_first.Goals as goal

pub returns : goal.returns
returns c = proved.events_first
