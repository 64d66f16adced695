-- What is said of a log with its words replaced, up to its verdict.
use Rattle.std.specs.Prelude.{◌≡◌, ◌==◌, ℕ, List, [], ◌∷◌, ◌++◌, true, Option, Some, None, is_some}
use Rattle.std.specs.Prelude.{option_and_then, option_to_list, if◌then◌else◌, map}
use Rattle.std.specs.List.{flat_map}
use Rattle.lsp_replay.specs.Common.{Bounds, content, Event, Format, Heard, heard_events, no_by}
use Rattle.lsp_replay.specs.Common.{rule_of, Run, Side, spelling, Tail, Terms}
use Rattle.lsp_facts.specs.TwoTexts.{texts_at}
use Rattle.lsp_frame.specs.declared.format.Format.TheVariants.{One, Two}
use Rattle.lsp_judge.specs.JudgingRun.{verdict_of}
use Rattle.lsp_verdict.specs.Event.{fault}
use Rattle.lsp_verdict.specs.Placed.{Raw}
use Rattle.lsp_verdict.specs.declared.completeness.Completeness.TheVariants.{Ignored}
use Rattle.lsp_verdict.specs.declared.outcome.Outcome.{Outcome}
use Rattle.lsp_verdict.specs.declared.outcome.Outcome.TheVariants.{Done}
use Rattle.lsp_redact.specs.Broken.{left_of}
use Rattle.lsp_redact.specs.Characters.{apart_in}
use Rattle.lsp_redact.specs.Check.{Checks}
use Rattle.lsp_redact.specs.Kept.{Kept, kept_in, kept_of}
use Rattle.lsp_redact.specs.Names.{Names, names_in, names_of, no_names}
use Rattle.lsp_redact.specs.Naming.{Writes}
use Rattle.lsp_redact.specs.Records.{most_of, records_of, written}
use Rattle.lsp_redact.specs.Shape as shape
use Rattle.lsp_redact.specs.Shape.{Shape}
use Rattle.lsp_redact.specs.Shown.{shown_kept}
use Rattle.lsp_redact.specs.declared.redaction.Redaction.{Redaction}

-- ---- what is left of a log

-- the format of a log of which so many versions are kept
abbrev pub format_by : ℕ → Format
format_by kept = if kept == 0 then One else Two

-- **what is left of these events**, of which none offends, in a log that is judged by these terms
abbrev pub shape_of : Terms → Names → Option ℕ → List Event → Shape
shape_of terms names apart events = record {
  format = format_by terms.kept;
  events = map (shown_kept names apart) (kept_in events);
}

-- with more events behind them
abbrev pub with_events : Shape → List shape.Event → Shape
with_events left events = record left { events = left.events ++ events }

-- ---- an event that offends

-- the character by which the two texts stay apart of an event that offends by this rule
abbrev pub apart_at : Terms → List Event → Event → ℕ → Option ℕ
apart_at terms before event rule =
    option_and_then (apart_in terms.line_ends) (texts_at terms before event rule)

-- the names in what is kept of these events and of the one after them
abbrev pub names_to : List Event → Event → Names
names_to before event = names_in (kept_in before ++ option_to_list (kept_of before event))

-- what stands for a content of a side that breaks this rule, of 201 to 209; nothing for a fault of
-- the frames
abbrev pub broken_left : Raw → ℕ → List shape.Event
broken_left (content side bytes) rule = shape.refused side (left_of bytes rule) ∷ []
broken_left _ rule = []

-- what is left of an event of which this is kept
abbrev pub last_left : Names → Option ℕ → Raw → ℕ → Option Kept → List shape.Event
last_left names apart raw rule (Some kept) = shown_kept names apart kept ∷ []
last_left names apart raw rule None = broken_left raw rule

abbrev pub shape_by : Terms → Names → Option ℕ → List Event → Raw → Event → ℕ → Shape
shape_by terms names apart before raw event rule = with_events (shape_of terms names apart before)
    (last_left names apart raw rule (kept_of before event))

-- **what is left of a log of these events and of the one after them**, which offends by this rule
abbrev pub shape_to : Terms → List Event → Raw → Event → ℕ → Shape
shape_to terms before raw event rule = shape_by terms (names_to before event)
    (apart_at terms before event rule) before raw event rule

-- what is written of it
abbrev pub left_to : Bounds → Terms → List Heard → Heard → ℕ → List ℕ
left_to limits terms before h rule =
    written (most_of limits) (shape_to terms (heard_events before) h.raw h.note.event rule)

-- ---- an event

-- of an event that is kept nothing is said yet; of one that offends all that is left, if it shows
-- the No
abbrev pub SaysOf : Bounds → Terms → List Heard → Heard → Option ℕ → List ℕ → Outcome → Type 0
SaysOf limits terms before h None out outcome = (out ≡ []) × (outcome ≡ Done)
SaysOf limits terms before h (Some rule) out outcome = Checks limits
    (left_to limits terms before h rule) (no_by (heard_events before) h.note.event rule) out outcome

-- ---- the end

-- **this is left of a log of these events**, of which none offends
abbrev pub whole_shape : Terms → List Event → Shape
whole_shape terms events = shape_of terms (names_in (kept_in events)) None events

-- what is left is written if it shows the verdict
abbrev pub Ends : Bounds → Terms → List Heard → Tail → List ℕ → Outcome → Type 0
Ends limits terms heard tail out outcome =
    Checks limits (written (most_of limits) (whole_shape terms (heard_events heard)))
    (verdict_of Ignored terms heard tail) out outcome

-- ---- the run

-- **the run that keeps what the rules read of each event**, and says what is left of it at the
-- first that offends, else at the end, where that shows the verdict. It may want memory to keep any
abbrev pub redact_run : Bounds → Run
redact_run limits = record {
  says = λ terms rests before h out.
      (outcome : Outcome) × SaysOf limits terms before h (rule_of terms before h) out outcome;
  wants = λ terms before h. true;
  stops = λ terms before h. is_some (rule_of terms before h);
  ends = λ terms before h outcome.
      (out : List ℕ) × SaysOf limits terms before h (rule_of terms before h) out outcome;
  closes = λ terms heard tail out. (outcome : Outcome) × Ends limits terms heard tail out outcome;
  finishes = λ terms heard tail outcome. (out : List ℕ) × Ends limits terms heard tail out outcome;
}

-- ---- a step

-- the first line, and what is left of what is kept of events as records
abbrev pub log_by : ℕ → Format → Names → Option ℕ → List Kept → List ℕ
log_by most format names apart kept =
    written most (record { format = format; events = map (shown_kept names apart) kept })

-- the names in what is kept of an event
abbrev pub names_by : Option Kept → Names
names_by None = no_names
names_by (Some kept) = names_of kept

-- an event that is a fault is one by this rule
abbrev pub IsFaultOf : ℕ → Event → Type 0
IsFaultOf rule event = (side : Side) (own : ℕ) → event ≡ fault side own → own ≡ rule

-- what is left of a content of a side that is refused by this rule is added; of a fault of the
-- frames nothing is, and a message and a snapshot are kept
abbrev pub IsBroken : ℕ → Raw → Event → ℕ → List ℕ → List ℕ → Type 0
IsBroken most raw (fault side own) rule text_before text_after = text_after
    ≡ text_before ++ flat_map spelling (flat_map (records_of most) (broken_left raw rule))
IsBroken most raw _ rule text_before text_after = Unit {0}

-- what is left of the event that offends by this rule, of which this is kept, is added
abbrev pub AddsLast : ℕ → Redaction → Redaction → Raw → ℕ → Option Kept → List ℕ → List ℕ → Type 0
AddsLast most old new raw rule kept text_before text_after = Writes old new (names_by kept)
    (λ names. text_before
    ++ flat_map spelling (flat_map (records_of most) (last_left names old.apart raw rule kept)))
    text_after
