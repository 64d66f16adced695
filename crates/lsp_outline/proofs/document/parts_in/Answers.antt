use Rattle.std.proofs.Common.{◌≡◌, IsUtf8, sym, ap, ◌∙◌, arith}
use Rattle.serde_json.specs.Data.{object}
use Rattle.serde_json.specs.Read.{read as read_text}
use Rattle.lsp_outline.proofs.Naming.{text_names}
use Rattle.lsp_outline.proofs.document.parts_in.Goals as goal

pub returns : goal.returns
returns c =
    let utf8 : (c.in_ok-text.text.now ≡ c.args.content.now) × IsUtf8 c.args.content.now =
    grind arith in
    let found = c.in_ok-text_into.ensures in
    text_names c.args.content.now (object found.0) _ utf8.1 (ap read_text (sym utf8.0) ∙ found.1)
    found.2
