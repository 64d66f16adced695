use Rattle.lsp_text.proofs.Differing.Differences.{one_difference}
use Rattle.lsp_text.proofs.laws.one_difference.Goals as goal

pub returns : goal.returns
returns c = one_difference
