-- `check` and `show` answer the verdict, and each log has one output of them.
use Rattle.std.specs.Prelude.{is_some, option_map}
use Rattle.std.proofs.Common.{◌≡◌, ◌∙◌, ℕ, List, Option, Some, ap, refl, subst, sym}
use Rattle.lsp_judge.specs.JudgingLaws.{JudgingAnswersVerdict, OneJudgingOutput}
use Rattle.lsp_judge.specs.JudgingRun.{completed_by, due_for, judging_run, said_by, verdict_of}
use Rattle.lsp_judge.proofs.JudgingRuns.{gives}
use Rattle.lsp_judge.proofs.Told.{ends_verdict}
use Rattle.lsp_replay.specs.Common.{Completeness, ending, Event, heard_events, IsJudged}
use Rattle.lsp_replay.specs.Common.{IsVerdictBy, no_by, no_of, rule_of}
use Rattle.lsp_replay.specs.RunLaws.{IsSameEnd}
use Rattle.lsp_replay.proofs.GivenVerdicts.{IsGiven, completed_given, some_judged, some_no}
use Rattle.lsp_replay.proofs.GivenVerdicts.{verdict_given}
use Rattle.lsp_replay.proofs.JsonRuns.{answers_in, has_one_in}
use Rattle.lsp_replay.proofs.Outputs.{judged_same}
use Rattle.lsp_replay.proofs.RunLaws.{answers_verdict}
use Rattle.lsp_verdict.specs.Verdict.{Verdict}
use Rattle.lsp_verdict.specs.declared.completeness.Completeness.TheVariants.{Ignored, Required}
use Rattle.lsp_verdict.specs.declared.outcome.Outcome.{Outcome}

pub judging_answers : JudgingAnswersVerdict
judging_answers form asked = answers_in form asked.completeness (judging_run asked)
    (answers_verdict asked.completeness (judging_run asked) (λ limits sizes log out outcome p.
    let (v, g, (given, same, named)) = gives asked limits log out outcome p in (
      given,
      same,
      subst (IsVerdictBy asked.completeness limits log) (sym named)
          (ends_verdict asked.completeness limits log g.front v g.ends),
    )))

-- one No, one end
same_no : (found : Option Verdict) (a b : Outcome)
    → (v : Verdict) × (found ≡ Some v) × IsJudged v a
    → (v : Verdict) × (found ≡ Some v) × IsJudged v b → IsSameEnd a b
same_no found a b (v, is, p) (w, at, q) =
    let one : w ≡ v = cc (sym is ∙ at) in
    judged_same v a b p (subst (λ (x : Verdict). IsJudged x b) one q)

-- the verdict, complete or not, can be held
by_completeness : {v : Verdict} (events : List Event) (completeness : Completeness) → IsGiven v
    → IsGiven (completed_by completeness events v)
by_completeness events Ignored given = given
by_completeness {v} events Required given = completed_given events v given

pub one_judging_output : OneJudgingOutput
one_judging_output form asked = has_one_in form (judging_run asked) (record {
  says = λ terms rests before h a b p q. p ∙ sym q;
  closes = λ terms heard tail a b p q. p ∙ sym q;
  ends = λ terms before h. same_no (no_of terms before h);
  finishes = λ terms heard tail. judged_same (verdict_of asked.completeness terms heard tail);
}) (record {
  says = λ terms rests before h. (said_by asked before h (no_of terms before h), refl);
  closes = λ terms heard tail.
      (due_for asked.form (verdict_of asked.completeness terms heard tail), refl);
  ends = λ terms before h stops.
      some_no (heard_events before) h.note.event (rule_of terms before h) (λ none.
      absurd (cc (sym stops ∙ ap (λ (o : Option ℕ). is_some (option_map
      (no_by (heard_events before) h.note.event) o)) none)));
  finishes = λ terms heard tail fits.
      let v = verdict_of asked.completeness terms heard tail in
      some_judged v (by_completeness (heard_events heard) asked.completeness
      (verdict_given terms (heard_events heard)
      (ending tail.fault tail.rests.editor tail.rests.server) fits));
})
