use Rattle.std.proofs.Common.{arith}
use Rattle.std.proofs.lemmas.Option.{IfSome_then}
use Rattle.lsp_outline.proofs.Editing.{members}
use Rattle.lsp_outline.proofs.params.IdPartsGathered.take.Goals as goal

pub returns-in_ok-value-in-id : goal.returns-in_ok-value-in-id
returns-in_ok-value-in-id c =
    let read = c.in_ok-value-in-id.ensures in
    (read.0, read.1 c.args.depth, λ ms h. grind (arith, members))

pub returns-in_ok-value-in-token : goal.returns-in_ok-value-in-token
returns-in_ok-value-in-token c =
    let read = c.in_ok-value-in-token.ensures in
    (read.0, read.1 c.args.depth, λ ms h. grind (arith, members))

pub returns-in_default : goal.returns-in_default
returns-in_default c =
    IfSome_then c.skipped.result c.skipped.ensures
    (λ end read. (read.0, read.1, λ ms h. grind (arith, members)))
