use Rattle.std.proofs.Common.{◌∷◌, [], refl, subst, ap, ◌∙◌, string_bytes}
use Rattle.serde_json.specs.View.{view}
use Rattle.lsp_rpc.specs.Act.{Text}
use Rattle.lsp_redact.specs.Messages.{kind_number, picked_of}
use Rattle.lsp_redact.specs.Names.{encoding_names, shown_encoding, written_encoding}
use Rattle.lsp_redact.specs.Naming.{Shows}
use Rattle.lsp_redact.proofs.Showing.{shows_made}
use Rattle.lsp_redact.proofs.redaction.Redaction.picked.Goals as goal

pub returns : goal.returns
returns c = record {
  same = refl;
  shows = shows_made (λ (e : Text). picked_of e (kind_number c.args.picked.now.kind))
      (view c.in_ok-shown.shown)
      (c.in_ok-shown.ensures
      ∙ ap (picked_of (string_bytes c.in_ok-encoding.encoding)) c.number_of.ensures)
      (subst (λ (t : Text). Shows c.args.self.now.names c.encoding.new.self
      (encoding_names (t ∷ [])) (λ n. written_encoding (shown_encoding n t))
      (string_bytes c.in_ok-encoding.encoding)) c.as_str.ensures.value c.in_ok-encoding.ensures);
}
