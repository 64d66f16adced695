use Rattle.lsp_docs.proofs.Past.{kept-rises}
use Rattle.lsp_docs.proofs.laws.kept_versions_rise.Goals as goal

pub returns : goal.returns
returns c = λ terms uri calls h. kept-rises terms uri calls h
