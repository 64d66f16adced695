use Rattle.lsp_verdict.proofs.Logs as proved
use Rattle.lsp_verdict.proofs.laws.one_verdict.Goals as goal

pub returns : goal.returns
returns c = proved.one_verdict
