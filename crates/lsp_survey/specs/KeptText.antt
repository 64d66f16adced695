-- The text that is held after a message of the editor's, where each event that offends is skipped.
use Rattle.std.specs.Prelude.{◌≡◌, ℕ, List, [], Option, Some, None, true}
use Rattle.lsp_replay.specs.Common.{Bounds, calls, end_answer, Event, events_of, held, held_answer}
use Rattle.lsp_replay.specs.Common.{IsSurvey, kept_of, log_terms, Offence, Run, Summary, Terms}
use Rattle.lsp_replay.specs.Common.{TextAnswer, up_to_editor}
use Rattle.lsp_replay.specs.TextAnswers.{text_run}
use Rattle.lsp_verdict.specs.Verdict.{Verdict}
use Rattle.lsp_verdict.specs.declared.completeness.Completeness.TheVariants.{Ignored}

-- **the run `text --all`**, for the editor's message of this number and a URI
abbrev pub kept_text_run : ℕ → List ℕ → Run
kept_text_run n uri = text_run (record { number = n; uri = uri; skips = true })

-- ---- what the survey of a log says of it

-- the text that is held for a URI just after the editor's n-th message, where these are the events
-- up to it: what those of them that are kept make of it
abbrev pub kept_answer : Terms → List ℕ → Option Verdict → Option (List Event) → TextAnswer
kept_answer terms uri bad (Some events) =
    held_answer (held terms uri (calls (kept_of terms events)))
kept_answer terms uri bad None = end_answer bad

-- **the answer on a log**
abbrev pub AnswersKept : ℕ → List ℕ → Bounds → List ℕ → TextAnswer → Type 0
AnswersKept n uri limits log answer =
    (found : List Offence) × (bad : Option Verdict) × (s : Summary)
    × (is : IsSurvey Ignored limits log found bad s)
    × (answer ≡ kept_answer (log_terms limits is.format) uri bad
    (up_to_editor n [] (events_of is.notes)))
