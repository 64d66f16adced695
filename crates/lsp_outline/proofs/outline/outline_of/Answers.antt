use Rattle.std.proofs.Common.{◌≡◌, IsUtf8, sym, ap, ◌∙◌, arith}
use Rattle.std.proofs.lemmas.Option.{IfSome_then}
use Rattle.serde_json.specs.Data.{object}
use Rattle.serde_json.specs.Read.{read as read_text}
use Rattle.lsp_rpc.specs.Reading.{IsJson}
use Rattle.lsp_outline.proofs.outline.outline_of.Goals as goal

pub returns : goal.returns
returns c =
    let utf8 : (c.in_ok-text.text.now ≡ c.args.content.now) × IsUtf8 c.args.content.now =
    grind arith in
    IfSome_then c.outline_in.result c.outline_in.ensures (λ message said.
    let read : IsJson c.args.content.now (object said.0) =
    (utf8.1, ap read_text (sym utf8.0) ∙ said.1) in
    (said.2.0, (object said.0, read, said.2.1), said.2.2))
