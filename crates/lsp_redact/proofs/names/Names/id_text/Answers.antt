use Rattle.std.proofs.Common.{ℕ, decimal, ap, ◌∙◌}
use Rattle.serde_json.specs.Data.{string}
use Rattle.serde_json.specs.View.{view}
use Rattle.lsp_redact.proofs.NamesShown.{id_named}
use Rattle.lsp_redact.proofs.Showing.{shows_made}
use Rattle.lsp_redact.proofs.names.Names.id_text.Goals as goal

pub returns : goal.returns
returns c =
    shows_made (λ (k : ℕ). string (decimal k)) (view c.text_value.result)
    (c.text_value.ensures ∙ ap string c.in_ok-shown.ensures)
    (id_named c.args.self.now c.of.new.self c.args.text.now c.in_ok-number.number
    c.in_ok-number.ensures.seen c.in_ok-number.ensures.number)
