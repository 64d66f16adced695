use Rattle.lsp_trail.proofs.Methods.{methods_have_rows}
use Rattle.lsp_explain.proofs.laws.standard_methods_have_rows.Goals as goal

pub returns : goal.returns
returns c = methods_have_rows
