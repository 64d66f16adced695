use Rattle.lsp_lined.proofs.PartSteps.{sums_of-nil}
use Rattle.lsp_lined.proofs.sums.Sums.none.Goals as goal

pub returns : goal.returns
returns c = sums_of-nil
