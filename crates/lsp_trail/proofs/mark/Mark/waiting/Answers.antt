use Rattle.std.proofs.Common.{ap, ◌∙◌, w32}
use Rattle.std.proofs.lemmas.Int.{to_z-of_z}
use mir.Val.{SFits}
use Rattle.lsp_trail.specs.Marking.{places_in}
use Rattle.lsp_trail.proofs.mark.Mark.waiting.Goals as goal

pub returns-in-Some : goal.returns-in-Some
returns-in-Some c =
    let fits : SFits w32 c.args.version = c.ranges.version in
    let found = simp to_z-of_z at c.in-Some.ensures.value in
    c.as_slice.ensures.value ∙ ap places_in found

pub returns-in-None : goal.returns-in-None
returns-in-None c =
    let fits : SFits w32 c.args.version = c.ranges.version in
    let found = simp to_z-of_z at c.in-None.ensures.value in
    ap places_in found
