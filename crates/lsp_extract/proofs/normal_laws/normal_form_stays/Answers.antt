use Rattle.lsp_extract.proofs.Forming.Again as proved
use Rattle.lsp_extract.proofs.normal_laws.normal_form_stays.Goals as goal

pub returns : goal.returns
returns c = proved.normal_form_stays
