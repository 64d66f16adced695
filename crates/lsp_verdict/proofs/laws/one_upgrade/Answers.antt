use Rattle.lsp_verdict.proofs.Upgrading as proved
use Rattle.lsp_verdict.proofs.laws.one_upgrade.Goals as goal

pub returns : goal.returns
returns c = proved.one_upgrade
