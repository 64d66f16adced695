use Rattle.std.proofs.Common.{arith}
use Rattle.std.proofs.lemmas.Option.{IfSome_then}
use Rattle.serde_json.specs.Data.{object}
use Rattle.lsp_outline.proofs.Editing.{members}
use Rattle.lsp_outline.proofs.edits.SpanPartsGathered.take.Goals as goal

pub returns-in_ok-value-in-start : goal.returns-in_ok-value-in-start
returns-in_ok-value-in-start c =
    let read = c.in_ok-value-in-start.ensures in
    (object read.0, read.1, λ ms h. grind (arith, members))

pub returns-in_ok-value-in-end : goal.returns-in_ok-value-in-end
returns-in_ok-value-in-end c =
    let read = c.in_ok-value-in-end.ensures in
    (object read.0, read.1, λ ms h. grind (arith, members))

pub returns-in_default : goal.returns-in_default
returns-in_default c =
    IfSome_then c.skipped.result c.skipped.ensures
    (λ end read. (read.0, read.1, λ ms h. grind (arith, members)))
