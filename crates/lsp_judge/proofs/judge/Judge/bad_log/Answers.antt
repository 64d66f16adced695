use Rattle.std.proofs.Common.{ap, refl, sym, ◌∙◌, Some}
use Rattle.lsp_replay.specs.Common.{bad_log, no, verdict_view}
use Rattle.lsp_judge.specs.Standing.{State}
use Rattle.lsp_judge.proofs.Answering.{given_names, keeps_given, keeps_ungiven, no_fault, open_none}
use Rattle.lsp_judge.proofs.Finals.{given_final, log_final}
use Rattle.lsp_judge.proofs.Records.{offence_in}
use Rattle.lsp_judge.proofs.judge.Judge.bad_log.Goals as goal

pub returns-in-Some-clause-keeps : goal.returns-in-Some-clause-keeps
returns-in-Some-clause-keeps g c =
    let given = ap (λ (s : State). s.given) (sym c.self.view_is) ∙ c.in-Some.is in
    let says = rw c.unwrap.ensures at c.answer.ensures.ok in
    keeps_given c.args.self.now _ c.in-Some.ruling _ given
    (verdict_view c.unwrap.result, says, refl) tt

pub returns-in-None-clause-keeps : goal.returns-in-None-clause-keeps
returns-in-None-clause-keeps g c =
    let given = ap (λ (s : State). s.given) (sym c.self.view_is) ∙ c.in-None.is in
    let seen = c.self.view_is in
    keeps_ungiven c.args.self.now _ _ _ given (ap (λ (s : State). s.limits) seen)
    (ap (λ (s : State). s.format) seen) tt

pub returns-in-Some-clause-verdict : goal.returns-in-Some-clause-verdict
returns-in-Some-clause-verdict g c = λ records v stands final.
    let given = ap (λ (s : State). s.given) (sym c.self.view_is) ∙ c.in-Some.is in
    let says = rw c.unwrap.ensures at c.answer.ensures.ok in
    given_final c.args.self.now records c.in-Some.ruling _ v _ given says stands final

pub returns-in-None-clause-verdict : goal.returns-in-None-clause-verdict
returns-in-None-clause-verdict g c = λ records v stands final.
    let given = ap (λ (s : State). s.given) (sym c.self.view_is) ∙ c.in-None.is in
    log_final c.args.self.now records c.args.number c.args.fault v given c.ranges.number.fits stands
    final

pub returns-in-Some-clause-no : goal.returns-in-Some-clause-no
returns-in-Some-clause-no g c = λ records rule count event who stands e.
    let given = ap (λ (s : State). s.given) (sym c.self.view_is) ∙ c.in-Some.is in
    let says = rw c.unwrap.ensures at c.answer.ensures.ok in
    given_names c.args.self.now records c.in-Some.ruling (no rule who count event) given
    (says ∙ ap (λ a. Some (verdict_view a)) e) stands

pub returns-in-None-clause-fault : goal.returns-in-None-clause-fault
returns-in-None-clause-fault g c = λ records at code stands e.
    let given = ap (λ (s : State). s.given) (sym c.self.view_is) ∙ c.in-None.is in
    (cc e, cc e, open_none c.args.self.now records given stands)

pub returns-in-Some-clause-fault : goal.returns-in-Some-clause-fault
returns-in-Some-clause-fault g c = λ records at code stands e.
    let given = ap (λ (s : State). s.given) (sym c.self.view_is) ∙ c.in-Some.is in
    let says = rw c.unwrap.ensures at c.answer.ensures.ok in
    absurd (no_fault c.args.self.now.limits c.args.self.now.format records at code
    (offence_in c.args.self.now records c.in-Some.ruling (bad_log at code) given
    (says ∙ ap (λ a. Some (verdict_view a)) e) stands))
