use Rattle.lsp_redact.proofs.RedactedRuns.{at_its_end}
use Rattle.lsp_redact.proofs.laws.redacted_at_its_end.Goals as goal

pub returns : goal.returns
returns c = at_its_end
