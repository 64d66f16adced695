use Rattle.std.proofs.Common.{Some, refl, subst, sym, w32}
use Rattle.std.proofs.lemmas.Int.{to_z-of_z}
use mir.Val.{SFits}
use Rattle.lsp_uris.proofs.Putting.{puts-key}
use Rattle.lsp_trail.specs.Bases.{BegunBy}
use Rattle.lsp_trail.proofs.BasesHeld.{put_one}
use Rattle.lsp_trail.proofs.bases.begin_first.Goals as goal

pub returns : goal.returns
returns c =
    let fits : SFits w32 c.args.version = c.ranges.version in
    let begun = simp to_z-of_z at c.new.ensures in
    let uri = c.args.uri.now in
    let n = c.args.version in
    let t = c.args.text.content in
    let base = c.new.result in
    let old = c.args.map.now.entries in
    let new = c.insert.new.self.entries in
    let updates = c.in_ok-insert.ensures.updates in
    put_one uri (BegunBy n t) (Some base) old new
    (puts-key (λ b. b) (Some base) old new c.in_ok-key.key uri c.in_ok-key.ensures.ok updates.1
    updates.3)
    (subst (λ o. BegunBy n t o (Some base)) (sym c.requires) (base, refl, begun))
