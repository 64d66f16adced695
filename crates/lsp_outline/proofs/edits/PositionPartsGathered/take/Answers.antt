use Rattle.std.proofs.Common.{arith}
use Rattle.std.proofs.lemmas.Option.{IfSome_then}
use Rattle.lsp_outline.proofs.Editing.{members}
use Rattle.lsp_outline.proofs.edits.PositionPartsGathered.take.Goals as goal

pub returns-in_ok-value-in-line : goal.returns-in_ok-value-in-line
returns-in_ok-value-in-line c =
    let read = c.in_ok-value-in-line.ensures.read in
    (read.0, read.1 c.args.depth, λ ms h. grind (arith, members))

pub returns-in_ok-value-in-character : goal.returns-in_ok-value-in-character
returns-in_ok-value-in-character c =
    let read = c.in_ok-value-in-character.ensures.read in
    (read.0, read.1 c.args.depth, λ ms h. grind (arith, members))

pub returns-in_default : goal.returns-in_default
returns-in_default c =
    IfSome_then c.skipped.result c.skipped.ensures
    (λ end read. (read.0, read.1, λ ms h. grind (arith, members)))
