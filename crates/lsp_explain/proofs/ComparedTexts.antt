-- The text that `explain --by-messages` or `--in-editor` writes is that of the first event that
-- offends.
use Rattle.std.specs.Prelude.{option_map, unwrap_or}
use Rattle.std.specs.Option.{option_or}
use Rattle.std.proofs.Common.{◌≡◌, ◌∙◌, ℕ, List, [], ◌∷◌, ◌++◌, Option, Some, None, ap, refl, subst, sym}
use Rattle.std.proofs.lemmas.Option.{same_Some}
use Rattle.lsp_trail.specs.Common.{bad_log_of, ending, first_from, first_no, first_of, Heard}
use Rattle.lsp_trail.specs.Common.{heard_events, Ignored, kept_before, log_terms, notes_of, offence}
use Rattle.lsp_trail.specs.Common.{rule_of, summary, Tail, Terms}
use Rattle.lsp_facts.specs.TwoTexts.{TwoTexts, texts_at}
use Rattle.lsp_frame.specs.Bounds.{Bounds}
use Rattle.lsp_frame.specs.declared.format.Format.{Format}
use Rattle.lsp_log.specs.Log.{Record}
use Rattle.lsp_log.specs.declared.fault.LogCode.{LogCode}
use Rattle.lsp_replay.specs.Run.{IsTold}
use Rattle.lsp_replay.proofs.AllHeard.{first_after, none_is}
use Rattle.lsp_replay.proofs.Seeing.{events-push}
use Rattle.lsp_replay.proofs.TextRuns.{CanEnd, bad_ends, is_text, same_ends, text_ends}
use Rattle.lsp_survey.proofs.SurveySteps.{survey_told}
use Rattle.lsp_verdict.specs.Survey as survey
use Rattle.lsp_verdict.specs.Shown.{TextAnswer}
use Rattle.lsp_verdict.proofs.Offences.Offending.{all_are_kept}
use Rattle.lsp_explain.specs.Compared.{AnswersCompared, answer_after, answer_at, answer_behind}
use Rattle.lsp_explain.specs.Compared.{answer_of, one_of, sound_answer}
use Rattle.lsp_explain.specs.ExplainLaws.{ComparedTextIsOfSurvey}
use Rattle.lsp_facts.specs.declared.two_texts.ComparedText.{ComparedText}
use Rattle.lsp_explain.proofs.Comparing.{answer_is}

-- ---- the first event that offends

module _ (which : ComparedText) (terms : Terms) where
  -- up to it all events are kept
  answer_from : (before hs : List Heard) → first_no terms (heard_events before) ≡ None
      → first_from (answer_at which terms) (heard_events before) (heard_events hs)
      ≡ first_from (answer_after which terms) before hs
  answer_from before [] clean = refl
  answer_from before (h ∷ hs) clean =
      ap (λ es. option_or (answer_at which terms es h.note.event)
      (first_from (answer_at which terms) (heard_events before ++ h.note.event ∷ [])
      (heard_events hs))) (sym (all_are_kept terms (heard_events before) clean))
      ∙ ap (λ es. option_or (answer_after which terms before h)
      (first_from (answer_at which terms) es (heard_events hs))) (sym (events-push before h))
      ∙ by_rule (λ kept. answer_from (before ++ h ∷ []) hs
      (first_after terms before h clean ∙ none_is terms before h kept)) (rule_of terms before h) refl
    where
      by_rule : (rule_of terms before h ≡ None
          → first_from (answer_at which terms) (heard_events (before ++ h ∷ [])) (heard_events hs)
          ≡ first_from (answer_after which terms) (before ++ h ∷ []) hs)
          → (o : Option ℕ) → rule_of terms before h ≡ o
          → option_or (answer_after which terms before h)
          (first_from (answer_at which terms) (heard_events (before ++ h ∷ [])) (heard_events hs))
          ≡ option_or (answer_after which terms before h)
          (first_from (answer_after which terms) (before ++ h ∷ []) hs)
      by_rule later (Some rule) is =
          let named = answer_is which terms before h (Some rule) is in
          ap (λ o. option_or o (first_from (answer_at which terms)
          (heard_events (before ++ h ∷ [])) (heard_events hs))) named
          ∙ sym (ap (λ o. option_or o (first_from (answer_after which terms) (before ++ h ∷ []) hs))
          named)
      by_rule later None is = ap (option_or (answer_after which terms before h)) (later is)

-- the answer on a log that was told
compared_told : (which : ComparedText) (limits : Bounds) (log : List ℕ)
    (format : Option Format) (records : List Record) (heard : List Heard) (tail : Tail)
    → IsTold limits log format records heard tail
    → AnswersCompared which limits log
    (unwrap_or (first_of (answer_after which (log_terms limits format)) heard)
    (answer_behind (log_terms limits format) heard tail))
unfolding survey_told
compared_told which limits log format records heard tail told = (
  survey.found_in Ignored (log_terms limits format) (notes_of heard)
      (ending tail.fault tail.rests.editor tail.rests.server),
  bad_log_of tail.fault,
  summary (log_terms limits format) (heard_events heard),
  survey_told Ignored limits log format records heard tail told,
  sym (ap (λ o. unwrap_or o (sound_answer (bad_log_of tail.fault)))
      (answer_from which (log_terms limits format) [] heard refl)),
)

pub compared_text_is_of_survey : ComparedTextIsOfSurvey
compared_text_is_of_survey which limits log out outcome p =
    is_text (answer_after which) answer_behind limits (AnswersCompared which limits)
    (compared_told which limits) log out outcome p

-- ---- each answer is one that a run can end with

named_ends : (which : ComparedText) (named : ℕ → Option TwoTexts) (o : Option ℕ)
    (answer : TextAnswer) → option_map (λ rule. answer_of which (named rule)) o ≡ Some answer
    → CanEnd answer
named_ends which named None answer is = absurd (cc is)
named_ends which named (Some rule) answer is =
    subst CanEnd (same_Some (answer_of which (named rule)) answer is) (by_texts (named rule))
  where
    by_texts : (o : Option TwoTexts) → CanEnd (answer_of which o)
    by_texts None = same_ends
    by_texts (Some texts) = text_ends (one_of which texts)

pub after_ends : (which : ComparedText) (terms : Terms) (before : List Heard) (h : Heard)
    (answer : TextAnswer) → answer_after which terms before h ≡ Some answer → CanEnd answer
after_ends which terms before h =
    let kept = kept_before terms before in
    named_ends which (texts_at terms kept h.note.event) (offence terms kept h.note.event)

pub behind_ends : (terms : Terms) (heard : List Heard) (tail : Tail)
    → CanEnd (answer_behind terms heard tail)
behind_ends terms heard tail = by_fault tail.fault
  where
    by_fault : (fault : Option (ℕ × LogCode)) → CanEnd (sound_answer (bad_log_of fault))
    by_fault None = same_ends
    by_fault (Some flaw) = bad_ends flaw.0 flaw.1
