use Rattle.lsp_verdict.proofs.Offences.Surveying as proved
use Rattle.lsp_verdict.proofs.offence_laws.one_survey.Goals as goal

pub returns : goal.returns
returns c = proved.one_survey
