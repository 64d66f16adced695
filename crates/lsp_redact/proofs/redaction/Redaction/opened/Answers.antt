use Rattle.std.proofs.Common.{refl, w32}
use Rattle.std.proofs.lemmas.Int.{to_z-of_z}
use Rattle.serde_json.specs.View.{view}
use Rattle.lsp_rpc.specs.Act.{Text}
use Rattle.lsp_redact.specs.Characters.{shown_bytes}
use Rattle.lsp_redact.specs.Messages.{opened_data}
use Rattle.lsp_redact.proofs.Showing.{shows_made}
use Rattle.lsp_redact.proofs.redaction.Redaction.opened.Goals as goal

pub returns : goal.returns
returns c = record {
  same = refl;
  shows = shows_made (λ (u : Text). opened_data u c.args.version
      (shown_bytes c.args.self.now.apart c.args.text.now)) (view c.in_ok-params.params)
      (cc (c.in_ok-params.ensures, c.in_ok-own.ensures, to_z-of_z w32 c.args.version c.ranges.version))
      c.in_ok-name.ensures;
}
