-- What is shown of a session: its events, and the text that is held after a message.
use Rattle.std.specs.Prelude.{ℕ, ℤ, ◌+◌, ◌-◌, ◌==◌, ◌&&◌, List, [], ◌∷◌, ◌++◌, length, take}
use Rattle.std.specs.Prelude.{if◌then◌else◌, Option, Some, None, is_some, codes, decimal, ◌≡◌}
use Rattle.std.specs.List.{flat_map}
use Rattle.std.specs.Fmt.{signed_decimal}
use Rattle.json.specs.Print.{quoted}
use Rattle.lsp_rpc.specs.Act.{Act, did_open, did_change, did_close, did_save}
use Rattle.lsp_rpc.specs.Words.{words_of}
use Rattle.lsp_types.specs.declared.side.Side.TheVariants.{Editor}
use Rattle.lsp_types.specs.declared.rules.TheConstants as rules
use Rattle.lsp_session.specs.Sent.{Sent}
use Rattle.lsp_docs.specs.Calls.{byte_len}
use Rattle.lsp_docs.specs.Documents.{Version, held, Terms}
use lib.Utf8.{encodes}
use Rattle.lsp_frame.specs.Bounds.{Bounds, IsInRange}
use Rattle.lsp_verdict.specs.declared.lines.Lines.{Lines}
use Rattle.lsp_verdict.specs.declared.lines.Lines.TheVariants.{Short, Long}
use Rattle.lsp_verdict.specs.LookBack.{each_of}
use Rattle.lsp_verdict.specs.Event.{Event, message, fault, snapshot, calls}
use Rattle.lsp_verdict.specs.Verdict.{Verdict, yes, no, first_no, is_of, belongs_to, count_of}
use Rattle.lsp_verdict.specs.Verdict.{whose}
use Rattle.lsp_verdict.specs.Report.{line, side_name, report}
use Rattle.lsp_verdict.specs.Given.{verdict_view}
use Rattle.lsp_verdict.specs.Outcome.{IsVerdict, log_terms}
use Rattle.lsp_verdict.specs.declared.outcome.Outcome.{Outcome}
use Rattle.lsp_verdict.specs.declared.outcome.Outcome.TheVariants.{Done, Judged, NoDocument}
use Rattle.lsp_verdict.specs.declared.outcome.Outcome.TheVariants.{NoDifference, TooFew}
use Rattle.lsp_verdict.specs.declared.verdict.Verdict as code

-- ---- events

abbrev pub message_words : ℕ → Sent → List (List ℕ)
message_words event m = decimal event ∷ side_name m.side ∷ words_of m.message ∷ []

abbrev pub snapshot_words : ℕ → List ℕ → ℤ → List ℕ → List (List ℕ)
snapshot_words event uri version text = decimal event ∷ codes "snapshot" ∷ signed_decimal version ∷ decimal (byte_len text) ∷ quoted uri ∷ []

-- of which document a message says something: its URI, and the version that it is opened at or
-- changed to
abbrev pub document_words : Act → List (List ℕ)
document_words (did_open uri version text) = quoted uri ∷ signed_decimal version ∷ []
document_words (did_change uri version edits) = quoted uri ∷ signed_decimal version ∷ []
document_words (did_close uri) = quoted uri ∷ []
document_words (did_save uri text) = quoted uri ∷ []
document_words _ = []

-- what a long line has after a short one: the number among those of the side, or among the
-- snapshots, and these words
abbrev pub words_behind : Lines → ℕ → List (List ℕ) → List (List ℕ)
words_behind Short number words = []
words_behind Long number words = decimal number ∷ words

-- the line of an event, by its number among all and that among those of its side; a fault has none,
-- since it offends, and the report tells it
abbrev pub event_line : Lines → ℕ → ℕ → Event → Option (List ℕ)
event_line lines event number (message m) = Some (line (message_words event m ++ words_behind lines number (document_words m.act)))
event_line lines event number (fault side rule) = None
event_line lines event number (snapshot uri version text) = Some (line (snapshot_words event uri version text ++ words_behind lines number []))

-- the line of an event after these
abbrev pub line_at : Lines → List Event → Event → Option (List ℕ)
line_at lines before event = event_line lines (length before + 1) (count_of (belongs_to (whose event)) before + 1) event

abbrev pub lines_of : Lines → List Event → List ℕ
lines_of lines events = flat_map (λ shown. shown) (each_of (line_at lines) events)

-- how many events come before the verdict's place
abbrev pub kept_count : Verdict → List Event → ℕ
kept_count (no rule who count event) events = event - 1
kept_count _ events = length events

-- the events before the verdict's place
abbrev pub kept : Verdict → List Event → List Event
kept v events = take (kept_count v events) events

-- one line for each event before the verdict's place, and the report
abbrev pub show_of : Lines → Verdict → List Event → List ℕ
show_of lines v events = lines_of lines (kept v events) ++ report v

-- ---- the text after a message

-- the events up to the n-th message of the editor, if there is one
abbrev pub up_to_editor : ℕ → List Event → List Event → Option (List Event)
up_to_editor n before [] = None
up_to_editor n before (event ∷ after) =
    if is_of Editor event && count_of (is_of Editor) before + 1 == n then Some (before ++ event ∷ []) else up_to_editor n (before ++ event ∷ []) after

pub data TextAnswer : Type 0 where
  text_is : List ℕ → TextAnswer
  no_document : TextAnswer
  too_few : TextAnswer
  no_difference : TextAnswer
  refused : Verdict → TextAnswer

abbrev pub held_answer : Option Version → TextAnswer
held_answer None = no_document
held_answer (Some v) = text_is v.text

-- where there is no such message: too few, if nothing but a rest of bytes is wrong
abbrev pub missing_answer : Verdict → TextAnswer
missing_answer (yes s) = too_few
missing_answer (no rule who count event) = if rule == rules.STREAM_ENDS_INSIDE_FRAME
    then too_few else refused (no rule who count event)
missing_answer v = refused v

-- the text that is held for a URI just after the editor's n-th message, where these are the events
-- up to it
abbrev pub text_answer : Terms → List ℕ → Verdict → Option (List Event) → TextAnswer
text_answer terms uri v (Some events) = if is_some (first_no terms events) then missing_answer v else held_answer (held terms uri (calls events))
text_answer terms uri v None = missing_answer v

-- ---- that text, on the bytes of a log

-- **the answer on a log**: what its verdict and its events up to the editor's n-th message say
-- about the text held just after that message
abbrev pub AnswersText : Bounds → List ℕ → ℕ → List ℕ → TextAnswer → Type 0
AnswersText limits log n uri answer = (v : Verdict) × (whole : IsVerdict limits log v) × (answer ≡ text_answer (log_terms limits whole.format) uri v (up_to_editor n [] whole.final.events))

-- **Every log has such an answer.**
abbrev pub SomeText : Type 0
SomeText = (limits : Bounds) (log : List ℕ) (n : ℕ) (uri : List ℕ)
    → (answer : TextAnswer) × AnswersText limits log n uri answer

-- **A log has only one such answer.**
abbrev pub OneText : Type 0
OneText = (limits : Bounds) → IsInRange limits → (log : List ℕ) (n : ℕ) (uri : List ℕ) (a b : TextAnswer) → AnswersText limits log n uri a → AnswersText limits log n uri b → a ≡ b

-- ---- what a run writes for it, and how it ends

-- what is written for an answer: the text, and nothing where there is none
abbrev pub written_of : TextAnswer → List ℕ
written_of (text_is text) = encodes text
written_of _ = []

-- how a run ends that has this answer
abbrev pub EndsAs : TextAnswer → Outcome → Type 0
EndsAs (text_is text) outcome = outcome ≡ Done
EndsAs no_document outcome = outcome ≡ NoDocument
EndsAs too_few outcome = outcome ≡ TooFew
EndsAs no_difference outcome = outcome ≡ NoDifference
EndsAs (refused v) outcome = (given : code.Verdict) × (outcome ≡ Judged given) × (verdict_view given ≡ v)

-- **what is due for a text**, where a log has one of these answers: the text that is held and
-- nothing else, and how the run ends
pub record IsText (Answers : List ℕ → TextAnswer → Type 0) (log out : List ℕ)
    (outcome : Outcome) : Type 0 where
  pub answer : TextAnswer
  pub answers : Answers log answer
  pub written : out ≡ written_of answer
  pub ends : EndsAs answer outcome

-- these bytes begin what is due for that text
abbrev pub BeginsText : (List ℕ → TextAnswer → Type 0) → List ℕ → List ℕ → Type 0
BeginsText Answers log front =
    (outcome : Outcome) × (left : List ℕ) × IsText Answers log (front ++ left) outcome
