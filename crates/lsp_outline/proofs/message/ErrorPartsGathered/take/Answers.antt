use Rattle.std.proofs.Common.{arith}
use Rattle.std.proofs.lemmas.Option.{IfSome_then}
use Rattle.lsp_outline.proofs.Editing.{members}
use Rattle.lsp_outline.proofs.message.ErrorPartsGathered.take.Goals as goal

pub returns-in_ok-value-in-code : goal.returns-in_ok-value-in-code
returns-in_ok-value-in-code c =
    let read = c.in_ok-value-in-code.ensures in
    (read.0, read.1 c.args.depth, λ ms h. grind (arith, members))

pub returns-in_ok-end-in-message : goal.returns-in_ok-end-in-message
returns-in_ok-end-in-message c =
    let read = c.in_ok-end-in-message.ensures in
    (read.0, read.1, λ ms h. grind (arith, members))

pub returns-in_default : goal.returns-in_default
returns-in_default c =
    IfSome_then c.skipped.result c.skipped.ensures
    (λ end read. (read.0, read.1, λ ms h. grind (arith, members)))
