use Rattle.std.specs.Prelude.{OnOk}
use Rattle.std.specs.Str.{chars}
use Rattle.std.proofs.Common.{subst, sym, w32}
use Rattle.std.proofs.lemmas.Int.{to_z-of_z}
use mir.Val.{SFits}
use Rattle.lsp_docs.specs.Calls.{shows}
use Rattle.lsp_trail.specs.Uncompared.{LeavesOn, left_by}
use Rattle.lsp_trail.proofs.uncompared.keep_shown.Goals as goal

pub returns-in-Shown : goal.returns-in-Shown
returns-in-Shown c =
    let fits : SFits w32 c.args.version = c.ranges.version in
    let told = simp to_z-of_z at c.keep_answered.ensures in
    let call = shows c.args.uri.now c.args.version (chars c.args.text.now) in
    subst (λ took. OnOk c.keep_answered.result (LeavesOn (left_by c.args.place.now call took)
    c.args.map.now.entries c.keep_answered.new.map.entries)) (sym c.in-Shown.is) told
