-- What `explain` writes and answers.
use Rattle.std.specs.Prelude.{map, option_map, is_some, take}
use Rattle.std.specs.List.{flat_map}
use Rattle.std.proofs.Common.{◌≡◌, ◌⊎◌, ℕ, false, List, [], ◌∷◌, ◌++◌, Option, Some, None}
use Rattle.std.proofs.Common.{inl, inr, refl, sym, ap, subst, ◌∙◌, append-nil, append_assoc}
use Rattle.lsp_trail.specs.Common.{bad_log, bad_log_of, breach, by_itself, Completeness, first_no}
use Rattle.lsp_trail.specs.Common.{first_verdict, Heard, heard_events, IsPassed, log_terms, no}
use Rattle.lsp_trail.specs.Common.{notes_of, Offence, Outcome, report, Rests, rule_of, Summary}
use Rattle.lsp_trail.specs.Common.{summary, Terms, Verdict, yes}
use Rattle.lsp_facts.specs.Fact.{Fact}
use Rattle.lsp_frame.specs.Bounds.{Bounds, IsInRange}
use Rattle.lsp_log.specs.declared.fault.LogCode.{LogCode}
use Rattle.lsp_replay.specs.Run.{EndsAfter, SaysAll, StopsIn}
use Rattle.lsp_replay.specs.RunLaws.{AnswersBy}
use Rattle.lsp_replay.specs.Telling.{no_of}
use Rattle.lsp_replay.proofs.AllHeard.{first_after, none_is}
use Rattle.lsp_replay.proofs.PassEnds.{IsQuiet}
use Rattle.lsp_replay.proofs.RunLaws.{answers_verdict}
use Rattle.lsp_replay.proofs.Seeing.{events-join}
use Rattle.lsp_replay.proofs.TextRuns.{no_none}
use Rattle.lsp_survey.specs.SessionEnds.{all_verdict, ends_of}
use Rattle.lsp_survey.proofs.SurveyRuns.{all_is_verdict}
use Rattle.lsp_verdict.specs.Complete.{IsVerdictBy}
use Rattle.lsp_verdict.specs.Verdict.{no_at}
use Rattle.lsp_verdict.proofs.LookBackLemmas.{first_of-more}
use Rattle.lsp_verdict.proofs.Offences.Offending.{first_listed, nothing_listed}
use Rattle.lsp_explain.specs.ExplainLaws.{BeginsWithReport, ExplanationAnswersVerdict, YesIsReport}
use Rattle.lsp_explain.specs.ExplainRuns.{SaysFirst, end_explanation, end_verdict, ends_said}
use Rattle.lsp_explain.specs.ExplainRuns.{explain_run}
use Rattle.lsp_origins.specs.Explained.{flaw_lines, said_of}
use Rattle.lsp_notes.specs.Notes.{note_lines, notes_by, noticed_by}

-- ---- the events before the one where it stops

pub quiet : (completeness : Completeness) → IsQuiet (explain_run completeness)
quiet completeness terms rests before h said says goes = by_rule (rule_of terms before h) goes says
  where
    by_rule : (o : Option ℕ) → is_some o ≡ false
        → SaysFirst rests terms (option_map (breach before h) o) said → said ≡ []
    by_rule None none is = is
    by_rule (Some rule) none is = absurd (cc none)

-- none of them offends
clean_after : (completeness : Completeness) (terms : Terms) (rests : Rests) (before hs : List Heard)
    (out : List ℕ) → SaysAll (explain_run completeness) terms rests before hs out
    → first_no terms (heard_events before) ≡ None
    → first_no terms (heard_events (before ++ hs)) ≡ None
clean_after completeness terms rests before [] out is clean =
    subst (λ (w : List Heard). first_no terms (heard_events w) ≡ None)
    (sym (append-nil before)) clean
clean_after completeness terms rests before (h ∷ hs) out (said, left, is, own, goes, later) clean =
    subst (λ (w : List Heard). first_no terms (heard_events w) ≡ None)
    (append_assoc before (h ∷ []) hs)
    (clean_after completeness terms rests (before ++ h ∷ []) hs left later
    (first_after terms before h clean
    ∙ none_is terms before h (no_none (rule_of terms before h) goes)))

-- ---- the report in an explanation

pub begins_with_report : BeginsWithReport
begins_with_report = record {
  event = λ terms b e.
      let notes = note_lines (notes_by e.no (noticed_by terms (heard_events b.before) (b ∷ []))) in
      (said_of e ++ notes, append_assoc (report e.no) (said_of e) notes);
  end = end_begins;
} where
  end_begins : (terms : Terms) (heard : List Heard) (rests : Rests)
      (fault : Option (ℕ × LogCode)) (flaw : List Fact) (ends : List Verdict)
      → (said : List ℕ) × (end_explanation terms heard rests fault flaw ends
      ≡ report (end_verdict terms heard fault ends) ++ said)
  end_begins terms heard rests fault flaw [] =
      let bad = bad_log_of fault in
      let v = first_verdict [] bad (summary terms (heard_events heard)) in
      let notes = note_lines (notes_by v (noticed_by terms (heard_events heard) [])) in
      (flaw_lines bad flaw ++ notes, append_assoc (report v) (flaw_lines bad flaw) notes)
  end_begins terms heard rests fault flaw (v ∷ ends) =
      let said = flat_map said_of (take 1 (ends_said terms heard rests (v ∷ ends))) in
      let notes = note_lines (notes_by v (noticed_by terms (heard_events heard) [])) in
      (said ++ notes, append_assoc (report v) said notes)

-- of Yes nothing is said about a fault
plain_yes : (bad : Option Verdict) (flaw : List Fact) (s t : Summary)
    → first_verdict [] bad s ≡ yes t → report (first_verdict [] bad s) ++ flaw_lines bad flaw
    ≡ report (yes t)
plain_yes None flaw s t is = append-nil (report (yes s)) ∙ ap report is
plain_yes (Some (yes u)) flaw s t is = append-nil (report (yes u)) ∙ ap report is
plain_yes _ flaw s t is = absurd cc

pub yes_is_report : YesIsReport
yes_is_report terms heard rests fault flaw t is =
    let notes : Verdict → List ℕ = λ v. note_lines
    (notes_by v (noticed_by terms (heard_events heard) [])) in
    ap (λ w. w ++ notes (end_verdict terms heard fault []))
    (plain_yes (bad_log_of fault) flaw (summary terms (heard_events heard)) t is)
    ∙ ap (λ (v : Verdict). report (yes t) ++ notes v) is

-- ---- a log

module _ (completeness : Completeness) (limits : Bounds) (log out : List ℕ) (outcome : Outcome)
    (p : IsPassed (explain_run completeness) limits log out outcome) where
  abbrev terms : Terms
  terms = log_terms limits p.format

  abbrev ends : List Verdict
  ends = ends_of completeness terms p.heard p.tail

  abbrev s : Summary
  s = summary terms (heard_events p.heard)

  abbrev AtStop : Type 0
  AtStop = StopsIn (explain_run completeness) terms p.tail.rests p.heard out outcome

  abbrev AtEnd : Type 0
  AtEnd = EndsAfter (explain_run completeness) terms p.tail p.heard out outcome

  clean : (hs : List Heard) (front : List ℕ)
      → SaysAll (explain_run completeness) terms p.tail.rests [] hs front
      → first_no terms (heard_events hs) ≡ None
  clean hs front said = clean_after completeness terms p.tail.rests [] hs front said refl

  -- the event where it stops is the first that is listed
  stops_first : (x : AtStop) (v : Verdict) → no_of terms x.first x.here ≡ Some v
      → all_verdict terms p.heard p.tail.fault ends ≡ v
  stops_first x v is =
      let on = x.first ++ x.here ∷ [] in
      let first : first_no terms (heard_events p.heard) ≡ Some v =
      ap (λ hs. first_no terms (heard_events hs))
      (x.are ∙ sym (append_assoc x.first (x.here ∷ []) x.later))
      ∙ ap (first_no terms) (events-join on x.later)
      ∙ first_of-more (no_at terms) (heard_events on) (heard_events x.later) v
      (first_after terms x.first x.here (clean x.first x.front x.said) ∙ is) in
      ap (λ (os : List Offence). first_verdict (os ++ map by_itself ends)
      (bad_log_of p.tail.fault) s) (first_listed terms (notes_of p.heard) v first).1

  -- where it stops at none, none is listed
  none_first : (x : AtEnd) → all_verdict terms p.heard p.tail.fault ends
      ≡ end_verdict terms p.heard p.tail.fault ends
  none_first x = ap (λ (os : List Offence). first_verdict (os ++ map by_itself ends)
      (bad_log_of p.tail.fault) s)
      ((nothing_listed terms (notes_of p.heard)).1 (clean p.heard x.front x.said))

  answers : IsInRange limits → AnswersBy completeness limits log outcome
  answers sizes = by_end p.is (all_is_verdict completeness limits sizes log p.format p.records
      p.heard p.tail p.told)
    where
      by_end : AtStop ⊎ AtEnd → IsVerdictBy completeness limits log
          (all_verdict terms p.heard p.tail.fault ends) → AnswersBy completeness limits log outcome
      by_end (inl x) whole =
          let (v, is, (given, same, named)) = x.stop.ends in (
            given,
            same,
            subst (IsVerdictBy completeness limits log) (stops_first x v is ∙ sym named) whole,
          )
      by_end (inr x) whole =
          let (given, same, named) = x.closes.1 in (
            given,
            same,
            subst (IsVerdictBy completeness limits log) (none_first x ∙ sym named) whole,
          )

pub explanation_answers : ExplanationAnswersVerdict
explanation_answers completeness = answers_verdict completeness (explain_run completeness)
    (λ limits sizes log out outcome p. answers completeness limits log out outcome p sizes)
