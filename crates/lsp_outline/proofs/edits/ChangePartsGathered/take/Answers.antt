use Rattle.std.proofs.Common.{string_bytes, arith}
use Rattle.std.proofs.lemmas.Option.{IfSome_then}
use Rattle.serde_json.specs.Data.{string}
use Rattle.lsp_outline.proofs.Editing.{members}
use Rattle.lsp_outline.proofs.edits.ChangePartsGathered.take.Goals as goal

pub returns-in_ok-value-in-range : goal.returns-in_ok-value-in-range
returns-in_ok-value-in-range c =
    let read = c.in_ok-value-in-range.ensures in
    (read.0, read.1, λ ms h. grind (arith, members))

pub returns-in_ok-value-in-text : goal.returns-in_ok-value-in-text
returns-in_ok-value-in-text c =
    let text = string (string_bytes c.in_ok-value-in-text.value) in
    (text, c.in_ok-value-in-text.ensures c.args.depth, λ ms h. grind (arith, members))

pub returns-in_ok-value-in-rangeLength : goal.returns-in_ok-value-in-rangeLength
returns-in_ok-value-in-rangeLength c =
    let read = c.in_ok-value-in-rangeLength.ensures in
    (read.0, read.1 c.args.depth, λ ms h. grind (arith, members))

pub returns-in_default : goal.returns-in_default
returns-in_default c =
    IfSome_then c.skipped.result c.skipped.ensures
    (λ end read. (read.0, read.1, λ ms h. grind (arith, members)))
