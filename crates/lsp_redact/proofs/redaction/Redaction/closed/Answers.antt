use Rattle.std.proofs.Common.{refl}
use Rattle.serde_json.specs.View.{view}
use Rattle.lsp_redact.specs.Messages.{closed_data}
use Rattle.lsp_redact.proofs.Showing.{shows_made}
use Rattle.lsp_redact.proofs.redaction.Redaction.closed.Goals as goal

pub returns : goal.returns
returns c = record {
  same = refl;
  shows = shows_made closed_data (view c.in_ok-params.params) c.in_ok-params.ensures
      c.in_ok-name.ensures;
}
