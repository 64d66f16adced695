use Rattle.lsp_redact.proofs.RedactedRuns as proved
use Rattle.lsp_redact.proofs.laws.redacted_shows_verdict.Goals as goal

pub returns : goal.returns
returns c = proved.redacted_shows_verdict
