use Rattle.std.proofs.Common.{string_bytes, arith}
use Rattle.std.proofs.lemmas.Option.{IfSome_then}
use Rattle.serde_json.specs.Data.{object, string}
use Rattle.lsp_outline.proofs.Editing.{members}
use Rattle.lsp_outline.proofs.document.NamingPartsGathered.take.Goals as goal

pub returns-in_ok-value-in-textDocument : goal.returns-in_ok-value-in-textDocument
returns-in_ok-value-in-textDocument c =
    let read = c.in_ok-value-in-textDocument.ensures in
    (object read.0, read.1, λ ms h. grind (arith, members))

pub returns-in_ok-value-in-uri : goal.returns-in_ok-value-in-uri
returns-in_ok-value-in-uri c =
    let text = string (string_bytes c.in_ok-value-in-uri.value) in
    (text, c.in_ok-value-in-uri.ensures c.args.depth, λ ms h. grind (arith, members))

pub returns-in_ok-value-in-version : goal.returns-in_ok-value-in-version
returns-in_ok-value-in-version c =
    let read = c.in_ok-value-in-version.ensures in
    (read.0, read.1 c.args.depth, λ ms h. grind (arith, members))

pub returns-in_default : goal.returns-in_default
returns-in_default c =
    IfSome_then c.skipped.result c.skipped.ensures
    (λ end read. (read.0, read.1, λ ms h. grind (arith, members)))
