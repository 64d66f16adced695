use Rattle.lsp_judge.proofs.Told.{some_shown}
use Rattle.lsp_judge.proofs.laws.some_shown.Goals as goal

pub returns : goal.returns
returns c = some_shown
