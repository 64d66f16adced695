-- The whole texts of a verdict that says that two texts differ: the one that the messages make, and
-- the one that was recorded.
use Rattle.std.specs.Prelude.{◌≡◌, ℕ, List, Option, Some, None, option_map, unwrap_or}
use Rattle.lsp_trail.specs.Common.{bad_log_of, Event, events_of, first_of, Heard, Ignored}
use Rattle.lsp_trail.specs.Common.{kept_before, log_terms, Offence, offence, Run, Summary, Tail}
use Rattle.lsp_trail.specs.Common.{Terms, Text, Verdict}
use Rattle.lsp_frame.specs.Bounds.{Bounds}
use Rattle.lsp_facts.specs.TwoTexts.{TwoTexts, texts_at}
use Rattle.lsp_replay.specs.TextAnswers.{answer_run}
use Rattle.lsp_verdict.specs.Shown.{TextAnswer, text_is, no_difference, refused}
use Rattle.lsp_verdict.specs.Survey.{IsSurvey}
use Rattle.lsp_facts.specs.declared.two_texts.ComparedText.{ComparedText}
use Rattle.lsp_facts.specs.declared.two_texts.ComparedText.TheVariants.{ByMessages, InEditor}

-- what is asked of the run
abbrev pub ComparedAsked : Type 0
ComparedAsked = ComparedText

abbrev pub one_of : ComparedText → TwoTexts → Text
one_of ByMessages texts = texts.by_messages
one_of InEditor texts = texts.in_editor

-- the one of the two, where there are two
abbrev pub answer_of : ComparedText → Option TwoTexts → TextAnswer
answer_of which None = no_difference
answer_of which (Some texts) = text_is (one_of which texts)

-- the answer at an event that offends after these
abbrev pub answer_at : ComparedText → Terms → List Event → Event → Option TextAnswer
answer_at which terms before event =
    option_map (λ rule. answer_of which (texts_at terms before event rule))
    (offence terms before event)

-- where no event offends: the fault of the log, if it has one
abbrev pub sound_answer : Option Verdict → TextAnswer
sound_answer None = no_difference
sound_answer (Some v) = refused v

-- ---- what the survey of a log says of it

-- the answer at the first event that offends, else at the end
abbrev pub compared_answer : ComparedText → Terms → Option Verdict → List Event → TextAnswer
compared_answer which terms bad events =
    unwrap_or (first_of (answer_at which terms) events) (sound_answer bad)

-- **the answer on a log**
abbrev pub AnswersCompared : ComparedText → Bounds → List ℕ → TextAnswer → Type 0
AnswersCompared which limits log answer =
    (found : List Offence) × (bad : Option Verdict) × (s : Summary)
    × (is : IsSurvey Ignored limits log found bad s)
    × (answer ≡ compared_answer which (log_terms limits is.format) bad (events_of is.notes))

-- ---- the run

-- the answer at the event after these, where it offends
abbrev pub answer_after : ComparedText → Terms → List Heard → Heard → Option TextAnswer
answer_after which terms before h = answer_at which terms (kept_before terms before) h.note.event

-- what the end says, where none does
abbrev pub answer_behind : Terms → List Heard → Tail → TextAnswer
answer_behind terms heard tail = sound_answer (bad_log_of tail.fault)

-- **the run of the compared texts**: it says one at the first event that offends, and stops there
abbrev pub compared_run : ComparedText → Run
compared_run which = answer_run (answer_after which) answer_behind
