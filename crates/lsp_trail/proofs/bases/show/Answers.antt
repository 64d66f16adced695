use Rattle.std.proofs.Common.{subst, sym, w32}
use Rattle.std.proofs.lemmas.Int.{to_z-of_z}
use Rattle.std.proofs.lemmas.Result.{on_ok_weaker}
use mir.Val.{SFits}
use Rattle.lsp_docs.specs.declared.snapshot.Match.{Match}
use Rattle.lsp_trail.specs.Bases.{ShownBy}
use Rattle.lsp_trail.proofs.bases.show.Goals as goal

pub returns-in-Equal : goal.returns-in-Equal
returns-in-Equal c =
    let fits : SFits w32 c.args.version = c.ranges.version in
    let begins = simp to_z-of_z at c.begin.ensures in
    on_ok_weaker c.begin.result (λ begun after stands.
    subst (λ (m : Match). ShownBy c.args.docs.now.terms after c.args.uri.now c.args.version m
    c.args.map.now.entries c.begin.new.map.entries) (sym c.in-Equal.is) (begun after stands)) begins
