use Rattle.std.proofs.Common.{◌≡◌, rules, subst, sym, w32}
use Rattle.std.specs.Prelude.{Bool}
use Rattle.std.proofs.lemmas.Int.{to_z-of_z}
use Rattle.std.proofs.lemmas.Result.{IfOk-weaker, on_ok_weaker}
use mir.Val.{SFits}
use Rattle.lsp_trail.specs.Marking.{finds_equal, stepped, mark_view}
use Rattle.lsp_trail.specs.declared.step.Step.{Step}
use Rattle.lsp_trail.proofs.mark.Mark.step.Goals as goal

pub returns-in-Reaches-clause-marked : goal.returns-in-Reaches-clause-marked
returns-in-Reaches-clause-marked c =
    let fits : SFits w32 c.in-Reaches.version = search rules in
    let reached = simp to_z-of_z at c.reach.ensures.marked in
    on_ok_weaker c.reach.result (λ is.
    subst (λ (step : Step). mark_view c.reach.new.self
    ≡ stepped c.args.place.now step (mark_view c.args.self.now)) (sym c.in-Reaches.is)
    (is c.in-Reaches.opens)) reached

pub returns-in-Reaches-clause-equal : goal.returns-in-Reaches-clause-equal
returns-in-Reaches-clause-equal c =
    let fits : SFits w32 c.in-Reaches.version = search rules in
    let reached = simp to_z-of_z at c.reach.ensures.equal in
    IfOk-weaker c.reach.result _ _ (λ (found : Bool) is.
    subst (λ (step : Step). found ≡ finds_equal step (mark_view c.args.self.now))
    (sym c.in-Reaches.is) (is c.in-Reaches.opens)) reached
