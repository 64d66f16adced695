use Rattle.std.specs.Prelude.{OnOk}
use Rattle.std.proofs.Common.{rules, subst, sym, w32}
use Rattle.std.proofs.lemmas.Int.{to_z-of_z}
use mir.Val.{SFits}
use Rattle.lsp_docs.specs.Taken.{call_view}
use Rattle.lsp_trail.specs.Uncompared.{LeavesOn, left_by}
use Rattle.lsp_trail.proofs.uncompared.Uncompared.keep.Goals as goal

pub returns-in-Shows : goal.returns-in-Shows
returns-in-Shows c =
    let number = c.in-Shows.version in
    let fits : SFits w32 number = search rules in
    let told = simp to_z-of_z at c.keep_shown.ensures in
    subst (λ call. OnOk c.keep_shown.result
    (LeavesOn (left_by c.args.place.now (call_view call) c.args.took)
    c.args.self.now.map.entries c.keep_shown.new.map.entries)) (sym c.in-Shows.is) told
