use Rattle.lsp_judge.proofs.Told.{one_shown}
use Rattle.lsp_judge.proofs.laws.one_shown.Goals as goal

pub returns : goal.returns
returns c = one_shown
