use Rattle.lsp_verdict.proofs.Completing as proved
use Rattle.lsp_verdict.proofs.complete_laws.ended_means_complete.Goals as goal

pub returns : goal.returns
returns c = proved.ended_means_complete
