use Rattle.lsp_verdict.proofs.Meanings as proved
use Rattle.lsp_verdict.proofs.laws.yes_means_kept.Goals as goal

pub returns : goal.returns
returns c = proved.yes_means_kept
