use Rattle.std.proofs.Common.{ap, refl, sym, ◌∙◌}
use Rattle.std.proofs.lemmas.Result.{IfOk-weaker}
use Rattle.lsp_verdict.specs.Given.{verdict_view}
use Rattle.lsp_judge.specs.Standing.{State, is_given}
use Rattle.lsp_judge.proofs.Answering.{answers_end, if_refused, keeps_given, keeps_ungiven, no_yes}
use Rattle.lsp_judge.proofs.Answering.{ok_at, refused_on}
use Rattle.lsp_judge.proofs.Finals.{given_by, open_final, named_end}
use Rattle.lsp_judge.proofs.judge.Judge.finish_by.Goals as goal

-- what was given is given again
pub returns-in-Some-clause-keeps : goal.returns-in-Some-clause-keeps
returns-in-Some-clause-keeps g c =
    let given = ap (λ (s : State). s.given) (sym c.self.view_is) ∙ c.in-Some.is in
    keeps_given c.args.self.now _ c.in-Some.ruling c.answer.result given
    (IfOk-weaker c.answer.result _ _ (λ answer is. (verdict_view answer, is, refl))
    c.answer.ensures.ok)
    c.answer.ensures.err

pub returns-in-Some-clause-finishes : goal.returns-in-Some-clause-finishes
returns-in-Some-clause-finishes g c =
    let given = ap (λ (s : State). s.given) (sym c.self.view_is) ∙ c.in-Some.is in
    answers_end c.args.completeness c.args.self.now _ c.answer.result
    (IfOk-weaker c.answer.result _ _
    (λ answer is records v stands final.
    given_by c.args.completeness c.args.self.now records c.in-Some.ruling _ v _ given is stands
    final) c.answer.ensures.ok)
    (λ s e. refl)
    (IfOk-weaker c.answer.result _ _
    (λ answer is. if_refused (verdict_view answer) _ (ap is_given given ∙ is))
    c.answer.ensures.ok)

-- Yes
pub returns-in-Ok-clause-keeps : goal.returns-in-Ok-clause-keeps
returns-in-Ok-clause-keeps g c =
    let given = ap (λ (s : State). s.given) (sym c.self.view_is) ∙ c.in_default.is in
    keeps_ungiven c.args.self.now c.args.self.now _ _ given refl refl tt

pub returns-in-Ok-clause-finishes : goal.returns-in-Ok-clause-finishes
returns-in-Ok-clause-finishes g c =
    let given = ap (λ (s : State). s.given) (sym c.self.view_is) ∙ c.in_default.is in
    let told = rw c.in-Ok.is at c.end.ensures in
    answers_end c.args.completeness c.args.self.now c.args.self.now _
    (λ records v stands final.
    open_final c.args.completeness c.args.self.now records _ v given told stands final)
    (λ s e. refl) tt

-- a No, or a want of memory
pub returns-in-Err-clause-keeps : goal.returns-in-Err-clause-keeps
returns-in-Err-clause-keeps g c =
    let given = ap (λ (s : State). s.given) (sym c.self.view_is) ∙ c.in_default.is in
    let seen = c.self.view_is in
    keeps_ungiven c.args.self.now _ _ c.answer-in-Err.result given
    (ap (λ (s : State). s.limits) seen) (ap (λ (s : State). s.format) seen)
    (refused_on c.in-Err.ruling c.answer-in-Err.result c.answer-in-Err.ensures.err)

pub returns-in-Err-clause-finishes : goal.returns-in-Err-clause-finishes
returns-in-Err-clause-finishes g c =
    let given = ap (λ (s : State). s.given) (sym c.self.view_is) ∙ c.in_default.is in
    let told = rw c.in-Err.is at c.end.ensures in
    answers_end c.args.completeness c.args.self.now _ c.answer-in-Err.result
    (IfOk-weaker c.answer-in-Err.result _ _
    (λ answer is records v stands final.
    open_final c.args.completeness c.args.self.now records _ v given
    (λ events follows. named_end c.in-Err.ruling _ _ is (told events follows)) stands final)
    c.answer-in-Err.ensures.ok)
    (λ s e. absurd (no_yes c.in-Err.ruling _
    (ok_at c.answer-in-Err.result _ _ e c.answer-in-Err.ensures.ok)))
    (IfOk-weaker c.answer-in-Err.result _ _
    (λ answer is. if_refused (verdict_view answer) _ is)
    c.answer-in-Err.ensures.ok)
