use Rattle.serde_json.specs.View.{view}
use Rattle.lsp_redact.specs.Messages.{offered_of}
use Rattle.lsp_redact.proofs.Showing.{writes_made}
use Rattle.lsp_redact.proofs.redaction.Redaction.offered.Goals as goal

pub returns : goal.returns
returns c =
    writes_made offered_of (view c.in_ok-capabilities.capabilities) c.in_ok-capabilities.ensures
    c.in_ok-names.ensures
