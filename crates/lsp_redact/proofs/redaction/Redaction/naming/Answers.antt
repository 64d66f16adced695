use Rattle.std.proofs.Common.{refl, ap, Some}
use Rattle.serde_json.specs.Data.{Data}
use Rattle.lsp_redact.specs.Messages.{one}
use Rattle.lsp_redact.proofs.Showing.{shows_made}
use Rattle.lsp_redact.proofs.redaction.Redaction.naming.Goals as goal

pub returns : goal.returns
returns c = record {
  same = refl;
  shows = shows_made (λ (d : Data). Some (one c.args.name.now d)) _
      (ap Some c.in_ok-params.ensures) c.in_ok-shown.ensures;
}
