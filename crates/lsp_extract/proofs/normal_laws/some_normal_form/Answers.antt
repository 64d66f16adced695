use Rattle.lsp_extract.proofs.Forming.OneForm as proved
use Rattle.lsp_extract.proofs.normal_laws.some_normal_form.Goals as goal

pub returns : goal.returns
returns c = proved.some_normal_form
