use Rattle.std.proofs.Common.{Option, ap, ◌∙◌, w32, option_map, List}
use Rattle.std.specs.Prelude.{unwrap_or}
use Rattle.std.proofs.lemmas.Int.{to_z-of_z}
use mir.Val.{SFits}
use Rattle.lsp_trail.specs.Marking.{Marked, unmarked, mark_view}
use Rattle.lsp_trail.specs.declared.mark.Mark.{Mark}
use Rattle.lsp_replay.specs.declared.heard.EventPlace.{EventPlace}
use Rattle.lsp_trail.proofs.marks.Marks.waiting.Goals as goal

pub returns-in-Some : goal.returns-in-Some
returns-in-Some c =
    let fits : SFits w32 c.args.version = c.ranges.version in
    let given = simp to_z-of_z at c.waiting.ensures in
    let found : Option Mark → List EventPlace =
    λ o. (unwrap_or (option_map mark_view o) unmarked).waiting c.args.version in
    λ terms events are. given ∙ ap found c.in-Some.ensures.value
    ∙ ap (λ (m : Marked). m.waiting c.args.version) (are c.args.uri.now)

pub returns-in-None : goal.returns-in-None
returns-in-None c =
    let found : Option Mark → List EventPlace =
    λ o. (unwrap_or (option_map mark_view o) unmarked).waiting c.args.version in
    λ terms events are. ap found c.in-None.ensures.value
    ∙ ap (λ (m : Marked). m.waiting c.args.version) (are c.args.uri.now)
