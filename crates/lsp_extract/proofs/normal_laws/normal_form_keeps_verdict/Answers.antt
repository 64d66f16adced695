use Rattle.lsp_extract.proofs.Forming.Verdicts as proved
use Rattle.lsp_extract.proofs.normal_laws.normal_form_keeps_verdict.Goals as goal

pub returns : goal.returns
returns c = proved.normal_form_keeps_verdict
