use Rattle.lsp_verdict.proofs.Sessions as proved
use Rattle.lsp_verdict.proofs.laws.one_session.Goals as goal

pub returns : goal.returns
returns c = proved.one_session
