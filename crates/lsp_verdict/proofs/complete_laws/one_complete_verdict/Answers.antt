use Rattle.lsp_verdict.proofs.Completing as proved
use Rattle.lsp_verdict.proofs.complete_laws.one_complete_verdict.Goals as goal

pub returns : goal.returns
returns c = proved.one_complete_verdict
