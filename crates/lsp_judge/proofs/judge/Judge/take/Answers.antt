use Rattle.std.proofs.Common.{ap, refl, sym, ◌∙◌, ◌∷◌, ◌++◌, []}
use Rattle.lsp_replay.specs.Common.{record_view, verdict_view}
use Rattle.lsp_judge.specs.Standing.{State}
use Rattle.lsp_judge.proofs.Answering.{keeps_given, keeps_ungiven, taken_no, taken_clean}
use Rattle.lsp_judge.proofs.Records.{given_stays, given_verdict, is_open, none_verdict, open_stands}
use Rattle.lsp_judge.proofs.Records.{rule_verdict, ruled_stands}
use Rattle.lsp_judge.proofs.judge.Judge.take.Goals as goal

pub returns-in-Some-clause-keeps : goal.returns-in-Some-clause-keeps
returns-in-Some-clause-keeps g c =
    let given = ap (λ (s : State). s.given) (sym c.self.view_is) ∙ c.in-Some.is in
    keeps_given c.args.self.now _ c.in-Some.ruling _ given
    (verdict_view c.in_ok-answer.field-0, c.in_ok-answer.ensures.ok, refl) tt

pub returns-in-Ok-clause-keeps : goal.returns-in-Ok-clause-keeps
returns-in-Ok-clause-keeps g c =
    rw (← c.self.view_is) (keeps_ungiven _ _ _ _ c.in_default.is refl refl tt)

pub returns-in-Some-clause-stands : goal.returns-in-Some-clause-stands
returns-in-Some-clause-stands g c = λ records stands.
    let given = ap (λ (s : State). s.given) (sym c.self.view_is) ∙ c.in-Some.is in
    given_stays c.args.self.now records (record_view c.args.next ∷ []) c.in-Some.ruling given stands

pub returns-in-Some-clause-verdict : goal.returns-in-Some-clause-verdict
returns-in-Some-clause-verdict g c = λ records events stands session.
    let given = ap (λ (s : State). s.given) (sym c.self.view_is) ∙ c.in-Some.is in
    given_verdict c.args.self.now records (record_view c.args.next ∷ []) c.in-Some.ruling _ events
    given c.in_ok-answer.ensures.ok stands session

pub returns-in-Ok-clause-verdict : goal.returns-in-Ok-clause-verdict
returns-in-Ok-clause-verdict g c = rw (← c.self.view_is) (λ records events stands session.
    none_verdict _ records (record_view c.args.next ∷ []) events _ _ _ _ c.in_default.is
    (c.in-Ok.ensures.ok _ _ records) stands session)

pub returns-in-Ok-clause-stands : goal.returns-in-Ok-clause-stands
returns-in-Ok-clause-stands g c = rw (← c.self.view_is) (λ records stands.
    open_stands _ _ stands.range c.in_default.is
    (c.in-Ok.ensures.ok _ _ records (is_open _ records c.in_default.is stands)))

pub returns-in_ok-answer-in-Err-clause-verdict : goal.returns-in_ok-answer-in-Err-clause-verdict
returns-in_ok-answer-in-Err-clause-verdict g c =
    rw (← c.self.view_is) (λ records events stands session.
    rule_verdict _ records (record_view c.args.next ∷ []) c.in-Err.ruling _ events c.in_default.is
    c.in_ok-answer-in-Err.ensures.ok (c.in-Err.ensures.no _ _ records) stands session)

pub returns-in-Some-clause-no : goal.returns-in-Some-clause-no
returns-in-Some-clause-no g c = λ records rule number event who stands e.
    taken_no _ _ (records ++ record_view c.args.next ∷ []) _ rule number event who
    (λ events session. returns-in-Some-clause-verdict g c records events stands session) e

pub returns-in-Ok-clause-none : goal.returns-in-Ok-clause-none
returns-in-Ok-clause-none g c = λ records stands e.
    taken_clean _ _ (records ++ record_view c.args.next ∷ [])
    (λ events session. returns-in-Ok-clause-verdict g c records events stands session)

pub returns-in_ok-answer-in-Err-clause-no : goal.returns-in_ok-answer-in-Err-clause-no
returns-in_ok-answer-in-Err-clause-no g c = λ records rule number event who stands e.
    taken_no _ _ (records ++ record_view c.args.next ∷ []) _ rule number event who
    (λ events session. returns-in_ok-answer-in-Err-clause-verdict g c records events stands
    session) e

pub returns-in_ok-answer-in-Err-clause-stands : goal.returns-in_ok-answer-in-Err-clause-stands
returns-in_ok-answer-in-Err-clause-stands g c = rw (← c.self.view_is) (λ records stands.
    ruled_stands _ _ records (record_view c.args.next ∷ []) c.in-Err.ruling _ c.in_default.is
    c.in_ok-answer-in-Err.ensures.ok refl refl refl (c.in-Err.ensures.no _ _ records) stands)
