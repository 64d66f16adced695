use Rattle.std.proofs.Common.{◌∙◌, subst, w32}
use Rattle.std.proofs.lemmas.Int.{to_z-of_z}
use Rattle.std.proofs.lemmas.Option.{none-some, same_Some}
use Rattle.std.proofs.lemmas.Result.{on_ok_weaker}
use mir.Val.{SFits}
use Rattle.lsp_trail.specs.Bases.{BegunBy, ChangesOne}
use Rattle.lsp_trail.proofs.bases.begin.Goals as goal

pub returns-in-Some : goal.returns-in-Some
returns-in-Some c =
    let fits : SFits w32 c.args.version = c.ranges.version in
    let begun = simp to_z-of_z at c.begin_with.ensures in
    let found = simp to_z-of_z at c.in-Some.ensures in
    on_ok_weaker c.begin_with.result (λ changed after stands t is.
    subst (λ u. ChangesOne c.args.uri.now (BegunBy c.args.version u) c.args.map.now.entries
    c.begin_with.new.map.entries)
    (same_Some c.in-Some.store.now.content t (found after stands ∙ is)) changed) begun

pub returns-in-None : goal.returns-in-None
returns-in-None c =
    let fits : SFits w32 c.args.version = c.ranges.version in
    let found = simp to_z-of_z at c.in-None.ensures in
    λ after stands t is. absurd (none-some t (found after stands ∙ is))
