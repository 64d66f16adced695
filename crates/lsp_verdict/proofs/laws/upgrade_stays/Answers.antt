use Rattle.lsp_verdict.proofs.Upgrading.Laws as proved
use Rattle.lsp_verdict.proofs.laws.upgrade_stays.Goals as goal

pub returns : goal.returns
returns c = proved.upgrade_stays
