-- What the runs that list the offences of a log write and answer.
use Rattle.std.specs.List.{cons_option}
use Rattle.std.specs.Prelude.{map}
use Rattle.std.proofs.Common.{◌≡◌, ◌⊎◌, ℕ, List, [], ◌∷◌, ◌++◌, Option, Some, None, false, inl, inr}
use Rattle.std.proofs.Common.{refl, sym, ap, subst, ◌∙◌, append-nil, append_assoc}
use Rattle.std.proofs.lemmas.List.{map-append}
use Rattle.lsp_replay.specs.Common.{all_report, AnswersVerdict, bad_log_of, Bounds, by_itself}
use Rattle.lsp_replay.specs.Common.{Completeness, each_from, ending, EndsAfter, Format}
use Rattle.lsp_replay.specs.Common.{HasOneOutput, Heard, heard_events, IsInRange, IsJudged}
use Rattle.lsp_replay.specs.Common.{IsPassed, IsTold, IsVerdictBy, kept_of, Listing, log_terms}
use Rattle.lsp_replay.specs.Common.{notes_of, Offence, offence_at, offences, Run, StopsIn, Summary}
use Rattle.lsp_replay.specs.Common.{summary, Tail, Terms}
use Rattle.lsp_log.specs.Log.{Record}
use Rattle.lsp_replay.specs.RunLaws.{AnswersBy, CanHold, SaysOn}
use Rattle.lsp_replay.proofs.GivenVerdicts.{AllGiven, all_given, ends_given, some_judged}
use Rattle.lsp_replay.proofs.Outputs.{has_one, judged_same}
use Rattle.lsp_replay.proofs.RunLaws.{answers_verdict}
use Rattle.lsp_survey.specs.Reported.{closing, is_every, lines_of}
use Rattle.lsp_survey.specs.SessionEnds.{all_verdict, ends_of}
use Rattle.lsp_survey.specs.SurveyLaws.{ReportsSurvey}
use Rattle.lsp_survey.specs.SurveyRun.{end_said, event_said, report_run, said_by, survey_run}
use Rattle.lsp_survey.specs.declared.survey.Options.{Options}
use Rattle.lsp_survey.proofs.Reporting.{lines_append, lines_none, report_is}
use Rattle.lsp_survey.proofs.SurveySteps.{survey_told}
use Rattle.lsp_verdict.specs.Survey.{found_in}
use Rattle.lsp_verdict.specs.Verdict.{Verdict}
use Rattle.lsp_verdict.specs.declared.completeness.Completeness.TheVariants.{Ignored, Required}
use Rattle.lsp_verdict.specs.declared.outcome.Outcome.{Outcome}
use Rattle.lsp_verdict.proofs.Completing.{some_complete_verdict}
use Rattle.lsp_verdict.proofs.Logs.{some_verdict}
use Rattle.lsp_verdict.proofs.Offences.Surveying.{survey_agrees}

-- ---- the verdict

some_by : (completeness : Completeness) (limits : Bounds) (log : List ℕ)
    → (v : Verdict) × IsVerdictBy completeness limits log v
some_by Ignored limits log = some_verdict limits log
some_by Required limits log = some_complete_verdict limits log

-- **the first of all that is listed of a log is the verdict on it**
pub all_is_verdict : (completeness : Completeness) (limits : Bounds) → IsInRange limits
    → (log : List ℕ) (format : Option Format) (records : List Record) (heard : List Heard)
    (tail : Tail) → IsTold limits log format records heard tail
    → IsVerdictBy completeness limits log (all_verdict (log_terms limits format) heard tail.fault
    (ends_of completeness (log_terms limits format) heard tail))
all_is_verdict completeness limits sizes log format records heard tail told =
    let terms = log_terms limits format in
    let w = some_by completeness limits log in
    subst (IsVerdictBy completeness limits log)
    (survey_agrees completeness limits sizes log (found_in completeness terms (notes_of heard)
    (ending tail.fault tail.rests.editor tail.rests.server)) (bad_log_of tail.fault)
    (summary terms (heard_events heard)) w.0
    (survey_told completeness limits log format records heard tail told) w.1) w.1

-- it is answered by a run that stops at no event and ends with it
pub all_answers : (completeness : Completeness) (run : Run)
    → ((terms : Terms) (before : List Heard) (h : Heard) → run.stops terms before h ≡ false)
    → ((terms : Terms) (heard : List Heard) (tail : Tail) (outcome : Outcome)
    → run.finishes terms heard tail outcome
    → IsJudged (all_verdict terms heard tail.fault (ends_of completeness terms heard tail)) outcome)
    → AnswersVerdict completeness run
all_answers completeness run goes ends = answers_verdict completeness run judged
  where
    judged : (limits : Bounds) → IsInRange limits → (log out : List ℕ) (outcome : Outcome)
        → IsPassed run limits log out outcome → AnswersBy completeness limits log outcome
    judged limits sizes log out outcome p = by_end p.is
      where
        by_end : StopsIn run (log_terms limits p.format) p.tail.rests p.heard out outcome
            ⊎ EndsAfter run (log_terms limits p.format) p.tail p.heard out outcome
            → AnswersBy completeness limits log outcome
        by_end (inl s) =
            absurd (cc (sym (goes (log_terms limits p.format) s.first s.here) ∙ s.stop.stops))
        by_end (inr e) =
            let given = ends (log_terms limits p.format) p.heard p.tail outcome e.closes.1 in (
              given.0,
              given.1,
              subst (IsVerdictBy completeness limits log) (sym given.2)
                  (all_is_verdict completeness limits sizes log p.format p.records p.heard p.tail
                  p.told),
            )

-- all that is listed of the end can be held
pub listed_given : (completeness : Completeness) (terms : Terms) (heard : List Heard) (tail : Tail)
    → AllGiven (ends_of completeness terms heard tail)
listed_given completeness terms heard tail =
    ends_given completeness (heard_events heard) (kept_of terms (heard_events heard)) tail.fault _ _

-- and the verdict answered, where the summary fits
pub some_listed : (completeness : Completeness) (terms : Terms) (heard : List Heard) (tail : Tail)
    → CanHold (summary terms (heard_events heard))
    → (outcome : Outcome) × IsJudged (all_verdict terms heard tail.fault
    (ends_of completeness terms heard tail)) outcome
some_listed completeness terms heard tail fits =
    let ends = ends_of completeness terms heard tail in
    some_judged (all_verdict terms heard tail.fault ends)
    (all_given terms (notes_of heard) ends tail.fault (summary terms (heard_events heard))
    (listed_given completeness terms heard tail) fits)

module _ (options : Options) where
  pub survey_answers : AnswersVerdict options.completeness (survey_run options)
  survey_answers = all_answers options.completeness (survey_run options) (λ terms before h. refl)
      (λ terms heard tail outcome ends. ends)

  -- **a log has one output**
  pub one_survey_output : HasOneOutput (survey_run options)
  one_survey_output = has_one (survey_run options) (record {
    says = λ terms rests before h a b p q. p ∙ sym q;
    closes = λ terms heard tail a b p q. p ∙ sym q;
    ends = λ terms before h a b p q. absurd p;
    finishes = λ terms heard tail a b p q. judged_same (all_verdict terms heard tail.fault
        (ends_of options.completeness terms heard tail)) a b p q;
  }) (record {
    says = λ terms rests before h. (event_said options terms before h, refl);
    closes = λ terms heard tail. (
      end_said options terms heard tail.fault (ends_of options.completeness terms heard tail),
      refl,
    );
    ends = λ terms before h stops. absurd (cc stops);
    finishes = some_listed options.completeness;
  })

-- ---- the report

-- the lines of all that is listed, and the closing ones, are the report
whole_report : (listing : Listing) (found ends : List Offence) (bad : Option Verdict)
    (s : Summary)
    → lines_of listing found ++ (lines_of listing ends ++ closing (found ++ ends) bad s)
    ≡ all_report (is_every listing) (found ++ ends) bad s
whole_report listing found ends bad s =
    sym (report_is listing (found ++ ends) bad s
    ∙ ap (λ l. l ++ closing (found ++ ends) bad s) (lines_append listing found ends)
    ∙ append_assoc (lines_of listing found) (lines_of listing ends) (closing (found ++ ends) bad s))

module _ (completeness : Completeness) (listing : Listing) where
  abbrev asked : Options
  asked = record { completeness = completeness; listing = listing; lines = None }

  abbrev end_of : Terms → Tail → List Heard → List ℕ
  end_of terms tail heard =
      end_said asked terms heard tail.fault (ends_of completeness terms heard tail)

  one_listed : (terms : Terms) (before : List Heard) (h : Heard) (rest : List Offence)
      → event_said asked terms before h ++ lines_of listing rest
      ≡ lines_of listing (cons_option (offence_at terms (notes_of before) h.note) rest)
  one_listed terms before h rest = by_offence (offence_at terms (notes_of before) h.note)
    where
      by_offence : (o : Option Offence)
          → said_by asked before h o ++ lines_of listing rest
          ≡ lines_of listing (cons_option o rest)
      by_offence None = refl
      by_offence (Some o) = sym (lines_append listing (o ∷ []) rest)

  -- the lines of the offences are said, and then what is said at the end
  said_listed : (terms : Terms) (tail : Tail) (before hs : List Heard) (out : List ℕ)
      (ended : Option Outcome)
      → SaysOn (report_run completeness listing) terms tail before hs out ended
      → out ≡ lines_of listing (each_from (offence_at terms) (notes_of before) (notes_of hs))
      ++ end_of terms tail (before ++ hs)
  said_listed terms tail before [] out ended says =
      says.0 ∙ ap (end_of terms tail) (sym (append-nil before))
      ∙ ap (λ w. w ++ end_of terms tail (before ++ [])) (lines_none listing)
  said_listed terms tail before (h ∷ hs) out ended (inl p) = absurd (cc p.0)
  said_listed terms tail before (h ∷ hs) out ended (inr (goes, (said, left, is, own, more))) =
      let on = before ++ h ∷ [] in
      let later = each_from (offence_at terms) (notes_of on) (notes_of hs) in
      let last = end_of terms tail (on ++ hs) in
      is ∙ ap (λ w. w ++ left) own
      ∙ ap (λ w. event_said asked terms before h ++ w) (said_listed terms tail on hs left ended more)
      ∙ sym (append_assoc (event_said asked terms before h) (lines_of listing later) last)
      ∙ ap (λ w. w ++ last) (one_listed terms before h later)
      ∙ ap (λ ns. lines_of listing (cons_option (offence_at terms (notes_of before) h.note)
      (each_from (offence_at terms) ns (notes_of hs))) ++ last)
      (map-append (λ (x : Heard). x.note) before (h ∷ []))
      ∙ ap (λ xs. lines_of listing (each_from (offence_at terms) (notes_of before)
      (notes_of (h ∷ hs))) ++ end_of terms tail xs) (append_assoc before (h ∷ []) hs)

pub reports_survey : ReportsSurvey
reports_survey completeness listing limits log out ended p =
    let terms = log_terms limits p.format in
    let found = offences terms (notes_of p.heard) in
    let ends = map by_itself (ends_of completeness terms p.heard p.tail) in
    let bad = bad_log_of p.tail.fault in
    let s = summary terms (heard_events p.heard) in
    record {
      found = found ++ ends;
      bad = bad;
      s = s;
      survey = survey_told completeness limits log p.format p.records p.heard p.tail p.told;
      written = said_listed completeness listing terms p.tail [] p.heard out ended p.says
          ∙ whole_report listing found ends bad s;
    }
