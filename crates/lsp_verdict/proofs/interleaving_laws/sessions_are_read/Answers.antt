use Rattle.lsp_verdict.proofs.Interleaving.Parts as proved
use Rattle.lsp_verdict.proofs.interleaving_laws.sessions_are_read.Goals as goal

pub returns : goal.returns
returns c = proved.sessions_are_read
