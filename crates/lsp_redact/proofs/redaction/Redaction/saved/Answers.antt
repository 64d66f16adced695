use Rattle.std.proofs.Common.{refl, ap, ◌∙◌, option_map, string_bytes}
use Rattle.serde_json.specs.View.{view}
use Rattle.lsp_rpc.specs.Act.{Text}
use Rattle.lsp_redact.specs.Characters.{bytes_left, written_text}
use Rattle.lsp_redact.specs.Messages.{saved_data}
use Rattle.lsp_redact.proofs.Showing.{shows_made}
use Rattle.lsp_redact.proofs.redaction.Redaction.saved.Goals as goal

pub returns : goal.returns
returns c = record {
  same = refl;
  shows = shows_made (λ (u : Text). saved_data u (option_map written_text
      (option_map (bytes_left c.args.self.now.apart)
      (option_map (λ t. string_bytes t.now) c.args.text)))) (view c.in_ok-params.params)
      (c.in_ok-params.ensures
      ∙ ap (saved_data (string_bytes c.in_ok-name.name)) c.in_ok-own.ensures)
      c.in_ok-name.ensures;
}
