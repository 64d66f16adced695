-- The text that is held after a message of the editor's, where each event that offends is skipped.
use Rattle.std.specs.Prelude.{if◌then◌else◌, unwrap_or}
use Rattle.std.specs.Option.{option_or}
use Rattle.std.proofs.Common.{◌≡◌, ℕ, Bool, true, false, List, [], ◌∷◌, ◌++◌, Option, Some, None, refl}
use Rattle.std.proofs.Common.{sym, ap, ◌∙◌}
use Rattle.lsp_replay.specs.Common.{bad_log_of, Bounds, calls, end_answer, ending, events_of}
use Rattle.lsp_replay.specs.Common.{first_from, first_of, Format, Heard, heard_events, held}
use Rattle.lsp_replay.specs.Common.{held_answer, IsTold, kept_before, log_terms, notes_of, summary}
use Rattle.lsp_replay.specs.Common.{Tail, Terms, text_at, text_behind, up_to_editor}
use Rattle.lsp_log.specs.Log.{Record}
use Rattle.lsp_replay.specs.TextAnswers.{TextAsked, answer_by, is_reached}
use Rattle.lsp_replay.proofs.Seeing.{events-push}
use Rattle.lsp_replay.proofs.TextRuns.{is_text}
use Rattle.lsp_survey.specs.KeptText.{AnswersKept, kept_answer}
use Rattle.lsp_survey.specs.SurveyLaws.{KeptTextIsOfSurvey}
use Rattle.lsp_survey.proofs.SurveySteps.{survey_told}
use Rattle.lsp_verdict.specs.Survey as survey
use Rattle.lsp_verdict.specs.Verdict.{Verdict}
use Rattle.lsp_verdict.specs.declared.completeness.Completeness.TheVariants.{Ignored}

abbrev asked : ℕ → List ℕ → TextAsked
asked n uri = record { number = n; uri = uri; skips = true }

module _ (n : ℕ) (uri : List ℕ) where
  answer_from : (terms : Terms) (bad : Option Verdict) (before hs : List Heard)
      → kept_answer terms uri bad (up_to_editor n (heard_events before) (heard_events hs))
      ≡ unwrap_or (first_from (text_at (asked n uri) terms) before hs) (end_answer bad)
  answer_from terms bad before [] = refl
  answer_from terms bad before (h ∷ hs) =
      ap (λ es. kept_answer terms uri bad (if is_reached n before h then Some es
      else up_to_editor n es (heard_events hs))) (sym (events-push before h))
      ∙ by_test (answer_from terms bad (before ++ h ∷ []) hs) (is_reached n before h)
    where
      on : List Heard
      on = before ++ h ∷ []

      by_test : kept_answer terms uri bad (up_to_editor n (heard_events on) (heard_events hs))
          ≡ unwrap_or (first_from (text_at (asked n uri) terms) on hs) (end_answer bad)
          → (b : Bool) → kept_answer terms uri bad (if b then Some (heard_events on)
          else up_to_editor n (heard_events on) (heard_events hs))
          ≡ unwrap_or (option_or (answer_by None b
          (held_answer (held terms uri (calls (kept_before terms on)))))
          (first_from (text_at (asked n uri) terms) on hs)) (end_answer bad)
      by_test later true = refl
      by_test later false = later

  -- the answer on a log that was told
  kept_told : (limits : Bounds) (log : List ℕ) (format : Option Format) (records : List Record)
      (heard : List Heard) (tail : Tail) → IsTold limits log format records heard tail
      → AnswersKept n uri limits log
      (unwrap_or (first_of (text_at (asked n uri) (log_terms limits format)) heard)
      (text_behind (log_terms limits format) heard tail))
  unfolding survey_told
  kept_told limits log format records heard tail told = (
    survey.found_in Ignored (log_terms limits format) (notes_of heard)
        (ending tail.fault tail.rests.editor tail.rests.server),
    bad_log_of tail.fault,
    summary (log_terms limits format) (heard_events heard),
    survey_told Ignored limits log format records heard tail told,
    sym (answer_from (log_terms limits format) (bad_log_of tail.fault) [] heard),
  )

pub kept_text_is_of_survey : KeptTextIsOfSurvey
kept_text_is_of_survey n uri limits log out outcome p =
    is_text (text_at (asked n uri)) text_behind limits (AnswersKept n uri limits)
    (kept_told n uri limits) log out outcome p
