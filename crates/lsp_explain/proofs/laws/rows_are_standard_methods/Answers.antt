use Rattle.lsp_trail.proofs.Methods.{rows_are_standard}
use Rattle.lsp_explain.proofs.laws.rows_are_standard_methods.Goals as goal

pub returns : goal.returns
returns c = rows_are_standard
