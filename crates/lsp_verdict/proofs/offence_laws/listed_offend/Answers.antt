use Rattle.lsp_verdict.proofs.Offences.Offending as proved
use Rattle.lsp_verdict.proofs.offence_laws.listed_offend.Goals as goal

pub returns : goal.returns
returns c = proved.listed_offend
