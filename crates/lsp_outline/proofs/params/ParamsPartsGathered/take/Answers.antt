use Rattle.std.proofs.Common.{arith}
use Rattle.std.proofs.lemmas.Option.{IfSome_then}
use Rattle.serde_json.specs.Data.{object, array}
use Rattle.lsp_outline.proofs.Editing.{members}
use Rattle.lsp_outline.proofs.params.ParamsPartsGathered.take.Goals as goal

pub returns-in_ok-value-in-textDocument : goal.returns-in_ok-value-in-textDocument
returns-in_ok-value-in-textDocument c =
    let read = c.in_ok-value-in-textDocument.ensures in
    (object read.0, read.1, λ ms h. grind (arith, members))

pub returns-in_ok-value-in-contentChanges : goal.returns-in_ok-value-in-contentChanges
returns-in_ok-value-in-contentChanges c =
    let read = c.in_ok-value-in-contentChanges.ensures in
    (array read.0, read.1, λ ms h. grind (arith, members))

pub returns-in_ok-value-in-text : goal.returns-in_ok-value-in-text
returns-in_ok-value-in-text c =
    let read = c.in_ok-value-in-text.ensures in
    (read.0, read.1 c.args.depth, λ ms h. grind (arith, members))

pub returns-in_default : goal.returns-in_default
returns-in_default c =
    IfSome_then c.skipped.result c.skipped.ensures
    (λ end read. (read.0, read.1, λ ms h. grind (arith, members)))
