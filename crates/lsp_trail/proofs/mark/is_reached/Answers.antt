use Rattle.std.proofs.Common.{sym, ◌∙◌, w32}
use Rattle.std.proofs.lemmas.Int.{to_z-of_z}
use mir.Val.{SFits}
use Rattle.lsp_trail.proofs.Waiting.{none_reached}
use Rattle.lsp_trail.proofs.mark.is_reached.Goals as goal

pub returns-in-Some-clause-above : goal.returns-in-Some-clause-above
returns-in-Some-clause-above c =
    let fits : SFits w32 c.args.version = c.ranges.version in
    let within = simp to_z-of_z at c.is_within.ensures in
    λ outside. none_reached c.args.version c.in-Some.least.now c.args.waiting.now.entries
    (sym within ∙ outside) c.in-Some.ensures.least
