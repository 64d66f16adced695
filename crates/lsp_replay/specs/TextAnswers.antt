-- The answers of the code for a text, in the words of the definitions, and what a run for a text
-- answers and writes.
use Rattle.std.specs.Prelude.{◌≡◌, ◌==◌, ◌+◌, ◌&&◌, ℕ, List, [], ◌∷◌, ◌++◌, Bool, true, false, Option}
use Rattle.std.specs.Prelude.{Some, None, Result, Ok, Err, IfOk, chars, is_some, string_bytes}
use Rattle.lsp_docs.specs.Documents.{held, Terms}
use Rattle.lsp_frame.specs.Bounds.{Bounds}
use Rattle.lsp_frame.specs.Told.{Told}
use Rattle.lsp_replay.specs.Run.{Run, Tail}
use Rattle.lsp_replay.specs.Telling.{kept_before, no_of}
use Rattle.lsp_replay.specs.declared.seen.Flow.{Flow}
use Rattle.lsp_replay.specs.declared.seen.Flow.TheVariants.{GoOn, Stop}
use Rattle.lsp_replay.specs.declared.text_answer.TextAnswer as code
use Rattle.lsp_replay.specs.declared.text_answer.TextAnswer.TheVariants as answers
use Rattle.lsp_types.specs.declared.side.Side.TheVariants.{Editor}
use Rattle.lsp_verdict.specs.Event.{calls}
use Rattle.lsp_verdict.specs.Given.{verdict_view}
use Rattle.lsp_verdict.specs.Heard.{Heard, heard_events}
use Rattle.lsp_verdict.specs.Runs.{CountsFaults, IsSilent, OutputFor, Ports, BreaksOff, OfRead}
use Rattle.lsp_verdict.specs.Shown.{TextAnswer, text_is, no_document, no_difference, too_few}
use Rattle.lsp_verdict.specs.Shown.{held_answer, missing_answer, refused, BeginsText, EndsAs}
use Rattle.lsp_verdict.specs.Shown.{IsText, written_of}
use Rattle.lsp_verdict.specs.Verdict.{Verdict, bad_log_of, count_of, is_of}
use Rattle.lsp_verdict.specs.declared.outcome.Outcome.{Outcome}
use Rattle.lsp_verdict.specs.declared.outcome.RunFault.{RunFault}
use Rattle.lsp_verdict.specs.declared.outcome.RunFault.TheVariants as faults

abbrev pub answer_view : code.TextAnswer → TextAnswer
answer_view (answers.Text text) = text_is (chars (string_bytes text))
answer_view answers.NoDocument = no_document
answer_view answers.TooFew = too_few
answer_view answers.NoDifference = no_difference
answer_view (answers.Refused v) = refused (verdict_view v)

-- ---- what is asked

-- the editor's message of this number, from 1, and a URI; and whether events that offend are
-- skipped
pub record TextAsked : Type 0 where
  pub number : ℕ
  pub uri : List ℕ
  pub skips : Bool

-- that message is the event after these
abbrev pub is_reached : ℕ → List Heard → Heard → Bool
is_reached n before h =
    is_of Editor h.note.event && count_of (is_of Editor) (heard_events before) + 1 == n

-- ---- a run that answers with a text

-- what is written for an answer, where there is one
abbrev pub said_of : Option TextAnswer → List ℕ
said_of None = []
said_of (Some answer) = written_of answer

-- **the run that says the answer of the first event that has one**, and stops there, else that of
-- the end of the log
abbrev pub answer_run : (Terms → List Heard → Heard → Option TextAnswer)
    → (Terms → List Heard → Tail → TextAnswer) → Run
answer_run answer_at answer_behind = record {
  says = λ terms rests before h out. out ≡ said_of (answer_at terms before h);
  wants = λ terms before h. is_some (answer_at terms before h);
  stops = λ terms before h. is_some (answer_at terms before h);
  ends = λ terms before h outcome. (answer : TextAnswer)
      × (answer_at terms before h ≡ Some answer) × EndsAs answer outcome;
  closes = λ terms heard tail out. out ≡ written_of (answer_behind terms heard tail);
  finishes = λ terms heard tail outcome. EndsAs (answer_behind terms heard tail) outcome;
}

-- it stops with this answer, which is said
abbrev pub StopsWith : TextAnswer → List ℕ → List ℕ → Flow → Type 0
StopsWith answer old new GoOn = ⊥
StopsWith answer old new (Stop boxed) = (new ≡ old ++ written_of answer) × EndsAs answer boxed.value

-- ---- the text after a message

-- the No at an event, where that ends the run
abbrev pub refusal_by : Bool → Option Verdict → Option Verdict
refusal_by true o = None
refusal_by false o = o

-- what this No says, else this text, where the event is the message that is asked for
abbrev pub answer_by : Option Verdict → Bool → TextAnswer → Option TextAnswer
answer_by (Some v) reached text = Some (missing_answer v)
answer_by None true text = Some text
answer_by None false text = None

-- the answer at the event after these, if that is known there
abbrev pub text_at : TextAsked → Terms → List Heard → Heard → Option TextAnswer
text_at asked terms before h =
    answer_by (refusal_by asked.skips (no_of terms before h)) (is_reached asked.number before h)
    (held_answer (held terms asked.uri (calls (kept_before terms (before ++ h ∷ [])))))

-- where there is no such message: the fault of the log, or too few, if it has none
abbrev pub end_answer : Option Verdict → TextAnswer
end_answer None = too_few
end_answer (Some v) = refused v

abbrev pub text_behind : Terms → List Heard → Tail → TextAnswer
text_behind terms heard tail = end_answer (bad_log_of tail.fault)

-- **the runs `text` and `text --all`**
abbrev pub text_run : TextAsked → Run
text_run asked = answer_run (text_at asked) text_behind

-- ---- what is answered and written

-- the answer is one of these of the log read, or reading broke off
abbrev pub FindsText : Bounds → Told → Told → (List ℕ → TextAnswer → Type 0)
    → Result code.TextAnswer RunFault → Type 0
FindsText limits start now Answers (Ok answer) =
    OfRead limits start now (λ log. Answers log (answer_view answer))
    × (now.failures ≡ start.failures)
FindsText limits start now Answers (Err fault) = BreaksOff limits start now fault

-- **what a run for a text answers and writes**, where a log has one of these answers
pub record WritesText (limits : Bounds) (io : Ports) (Answers : List ℕ → TextAnswer → Type 0)
    (result : Result Outcome RunFault) : Type 0 where
  -- What is due for that text of the log read, however it continues where its end was not met, is
  -- written, and nothing else; the outcome is the one that is due.
  pub written : IfOk result (λ outcome.
      OutputFor limits io (λ log out. IsText Answers log out outcome))
  -- After a read fault or where memory was refused nothing is written, after a write fault a prefix
  -- of what is due.
  pub read_fault : result ≡ Err faults.Read → IsSilent io
  pub memory : result ≡ Err faults.Memory → IsSilent io
  pub write_fault : result ≡ Err faults.Write → OutputFor limits io (BeginsText Answers)
  pub counts : CountsFaults limits io result
