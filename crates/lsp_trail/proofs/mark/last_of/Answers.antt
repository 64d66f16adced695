use Rattle.std.proofs.Common.{ap, ◌∙◌, w32, option_map}
use Rattle.std.proofs.lemmas.Int.{to_z-of_z}
use mir.Val.{SFits}
use Rattle.lsp_trail.specs.Marking.{at_version, last_shown, places_in}
use Rattle.lsp_trail.proofs.mark.last_of.Goals as goal

pub returns-in_err-places : goal.returns-in_err-places
returns-in_err-places c =
    let fits : SFits w32 c.args.version = c.ranges.version in
    let found = simp to_z-of_z at c.in_err-places.ensures.value in
    c.from_residual.ensures
    ∙ ap (λ o. last_shown c.args.version c.args.rank (places_in o)) found

pub returns-in_err-place : goal.returns-in_err-place
returns-in_err-place c =
    let fits : SFits w32 c.args.version = c.ranges.version in
    let found = simp to_z-of_z at c.in_ok-places.ensures.value in
    c.from_residual-in_err-place.ensures
    ∙ ap (option_map (λ p. at_version c.args.rank p c.args.version)) c.in_err-place.ensures.value
    ∙ ap (last_shown c.args.version c.args.rank) (c.as_slice.ensures.value ∙ ap places_in found)
