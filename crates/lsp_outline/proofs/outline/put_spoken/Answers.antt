use Rattle.std.proofs.Common.{◌≡◌, IsUtf8, sym, ap, ◌∙◌, arith}
use Rattle.std.proofs.lemmas.Option.{IfSome_then}
use Rattle.serde_json.specs.Data.{object}
use Rattle.serde_json.specs.Read.{read as read_text}
use Rattle.lsp_rpc.specs.Reading.{IsJson}
use Rattle.lsp_outline.proofs.outline.put_spoken.Goals as goal

pub returns : goal.returns
returns c =
    let utf8 : (c.in_ok-text.text.now ≡ c.args.content.now) × IsUtf8 c.args.content.now =
    grind arith in
    IfSome_then c.put_text.result c.put_text.ensures (λ _ said.
    let read : IsJson c.args.content.now (object said.0) =
    (utf8.1, ap read_text (sym utf8.0) ∙ said.1) in record {
      whole = said.2.whole;
      reads = (object said.0, read, said.2.is);
      means = said.2.means;
      rest = said.2.rest;
    })
