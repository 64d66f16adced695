use Rattle.lsp_verdict.proofs.Completing as proved
use Rattle.lsp_verdict.proofs.complete_laws.complete_means_ended.Goals as goal

pub returns : goal.returns
returns c = proved.complete_means_ended
