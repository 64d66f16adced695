use Rattle.lsp_redact.proofs.RedactedRuns as proved
use Rattle.lsp_redact.proofs.laws.one_redacted.Goals as goal

pub returns : goal.returns
returns c = proved.one_redacted
