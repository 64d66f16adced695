use Rattle.std.proofs.Common.{subst, w32}
use Rattle.std.proofs.lemmas.Int.{to_z-of_z}
use Rattle.std.proofs.lemmas.Result.{on_ok_weaker}
use mir.Val.{SFits}
use Rattle.lsp_docs.specs.Calls.{Text}
use Rattle.lsp_trail.specs.Bases.{BegunBy, ChangesOne}
use Rattle.lsp_trail.proofs.bases.begin_with.Goals as goal

pub returns-in-Some : goal.returns-in-Some
returns-in-Some c =
    let fits : SFits w32 c.args.version = c.ranges.version in
    let begun = simp to_z-of_z at c.begin_at.ensures in
    let content = c.in_ok-text.ensures.content in
    subst (λ (t : Text). ChangesOne c.args.uri.now (BegunBy c.args.version t)
    c.args.map.now.entries c.begin_at.new.map.entries) content begun

pub returns-in-None : goal.returns-in-None
returns-in-None c =
    let fits : SFits w32 c.args.version = c.ranges.version in
    let begun = simp to_z-of_z at c.begin_first.ensures in
    let content = c.in_ok-text.ensures.content in
    on_ok_weaker c.begin_first.result (λ changed.
    subst (λ (t : Text). ChangesOne c.args.uri.now (BegunBy c.args.version t)
    c.args.map.now.entries c.begin_first.new.map.entries) content changed) begun
