use Rattle.lsp_verdict.proofs.Outcomes as proved
use Rattle.lsp_verdict.proofs.laws.cuts_leave_verdict.Goals as goal

pub returns : goal.returns
returns c = proved.cuts_leave_verdict
