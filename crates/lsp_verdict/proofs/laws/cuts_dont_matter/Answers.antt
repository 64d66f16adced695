use Rattle.lsp_verdict.proofs.Sessions as proved
use Rattle.lsp_verdict.proofs.laws.cuts_dont_matter.Goals as goal

pub returns : goal.returns
returns c = proved.same_session
