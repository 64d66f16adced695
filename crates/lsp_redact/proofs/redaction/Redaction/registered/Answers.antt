use Rattle.serde_json.specs.View.{view}
use Rattle.lsp_redact.specs.Messages.{registered_of}
use Rattle.lsp_redact.proofs.Showing.{writes_made}
use Rattle.lsp_redact.proofs.redaction.Redaction.registered.Goals as goal

pub returns : goal.returns
returns c =
    writes_made registered_of (view c.in_ok-params.params) c.in_ok-params.ensures
    c.in_ok-registrations.ensures
