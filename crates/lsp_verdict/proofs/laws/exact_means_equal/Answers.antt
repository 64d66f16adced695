use Rattle.lsp_verdict.proofs.CallsMade.{exact_means_equal}
use Rattle.lsp_verdict.proofs.laws.exact_means_equal.Goals as goal

pub returns : goal.returns
returns c = exact_means_equal
