use Rattle.lsp_verdict.proofs.Offences.Surveying as proved
use Rattle.lsp_verdict.proofs.offence_laws.survey_agrees.Goals as goal

pub returns : goal.returns
returns c = proved.survey_agrees
