use Rattle.lsp_verdict.proofs.Interleaving.Both as proved
use Rattle.lsp_verdict.proofs.interleaving_laws.both_yes_agree.Goals as goal

pub returns : goal.returns
returns c = proved.both_yes
