use Rattle.lsp_redact.proofs.RedactedRuns as proved
use Rattle.lsp_redact.proofs.laws.redacted_has_no_word.Goals as goal

pub returns : goal.returns
returns c = proved.redacted_has_no_word
