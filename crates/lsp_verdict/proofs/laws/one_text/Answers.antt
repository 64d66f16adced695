use Rattle.lsp_verdict.proofs.Logs.Text as proved
use Rattle.lsp_verdict.proofs.laws.one_text.Goals as goal

pub returns : goal.returns
returns c = proved.one_text
