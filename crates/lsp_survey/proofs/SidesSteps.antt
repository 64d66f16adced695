-- What is noted of the bytes of both sides, with one event more.
use Rattle.std.specs.Prelude.{nat_le, ◌&&◌, ◌||◌, ◌==◌, if◌then◌else◌, unwrap_or}
use Rattle.std.proofs.Common.{◌≡◌, ℕ, Bool, true, false, List, [], ◌∷◌, ◌++◌, Some, None, refl, sym}
use Rattle.std.proofs.Common.{ap, ◌∙◌}
use Rattle.std.proofs.Math.Bool.{or-false}
use Rattle.lsp_replay.specs.Common.{error, Event, follows_bytes, is_nameless, is_within, may_answer}
use Rattle.lsp_replay.specs.Common.{Message, message, notification, other_side, outline, request}
use Rattle.lsp_replay.specs.Common.{response, result, same_side, Side, snapshot, wants_other}
use Rattle.lsp_types.specs.declared.rules.TheConstants as rules
use Rattle.lsp_types.specs.declared.side.Side.TheVariants.{Editor, Server}
use Rattle.lsp_verdict.specs.Event.{fault}
use Rattle.lsp_verdict.specs.Offences.{has_broken, has_no_message, is_frame_fault}
use Rattle.lsp_verdict.specs.Offences.{is_no_message, is_unread}
use Rattle.lsp_verdict.specs.Offences.{unread_by}
use Rattle.lsp_verdict.proofs.Offences.Steps.{has_broken-push, has_no_message-push, is_unread-push}
use Rattle.lsp_survey.specs.Notes.{failed_on, read_on, side_in, side_of, sides_after, sides_of}
use Rattle.lsp_survey.specs.Notes.{message_follows, sides_read}
use Rattle.lsp_survey.specs.Lost.{IsMessageOf}
use Rattle.lsp_survey.specs.declared.notes.sides.SideNote.{SideNote}
use Rattle.lsp_survey.specs.declared.notes.sides.Sides.{Sides}

abbrev note : Bool → Bool → Bool → SideNote
note broken unread no_message = record {
  broken = broken;
  unread = unread;
  no_message = no_message;
}

pushed : (side : Side) (events : List Event) (e : Event) → side_of side (events ++ e ∷ [])
    ≡ note (has_broken side events || is_frame_fault side e)
    (unwrap_or (unread_by side e) (is_unread side events))
    (has_no_message side events || is_no_message side e)
pushed side events e =
    λ i. note (has_broken-push side events e i) (is_unread-push side events e i)
    (has_no_message-push side events e i)

message_by : (own b u n : Bool)
    → note (b || false) (unwrap_or (if own then Some false else None) u) (n || false)
    ≡ (if own then read_on (note b u n) else note b u n)
message_by true b u n = λ i. note (or-false b i) false (or-false n i)
message_by false b u n = λ i. note (or-false b i) u (or-false n i)

fault_by : (own b u n : Bool) (rule : ℕ)
    → note (b || (own && nat_le rule rules.CHARSET_NOT_UTF_8))
    (unwrap_or (if own then Some (rule == rules.CONTENT_NOT_JSON) else None) u)
    (n || (own && is_within rules.CONTENT_NOT_JSON rules.BAD_ERROR_OBJECT rule))
    ≡ (if own then failed_on rule (note b u n) else note b u n)
fault_by true b u n rule = refl
fault_by false b u n rule = λ i. note (or-false b i) u (or-false n i)

-- **with one event more**
pub sides_pushed : (events : List Event) (e : Event)
    → sides_of (events ++ e ∷ []) ≡ sides_after e (sides_of events)
sides_pushed events (message m) = λ i. record {
  editor = (pushed Editor events (message m)
      ∙ message_by (same_side Editor m.side) (has_broken Editor events)
      (is_unread Editor events) (has_no_message Editor events)) i;
  server = (pushed Server events (message m)
      ∙ message_by (same_side Server m.side) (has_broken Server events)
      (is_unread Server events) (has_no_message Server events)) i;
}
sides_pushed events (fault side rule) = λ i. record {
  editor = (pushed Editor events (fault side rule)
      ∙ fault_by (same_side Editor side) (has_broken Editor events)
      (is_unread Editor events) (has_no_message Editor events) rule) i;
  server = (pushed Server events (fault side rule)
      ∙ fault_by (same_side Server side) (has_broken Server events)
      (is_unread Server events) (has_no_message Server events) rule) i;
}
sides_pushed events (snapshot uri number text) = λ i. record {
  editor = (pushed Editor events (snapshot uri number text)
      ∙ message_by false (has_broken Editor events) (is_unread Editor events)
      (has_no_message Editor events)) i;
  server = (pushed Server events (snapshot uri number text)
      ∙ message_by false (has_broken Server events) (is_unread Server events)
      (has_no_message Server events)) i;
}

-- what is noted of a side is what is to be noted of it
pub unread_in : (side : Side) (events : List Event)
    → (side_in side (sides_of events)).unread ≡ is_unread side events
unread_in Editor events = refl
unread_in Server events = refl

pub broken_in : (side : Side) (events : List Event)
    → (side_in side (sides_of events)).broken ≡ has_broken side events
broken_in Editor events = refl
broken_in Server events = refl

pub no_message_in : (side : Side) (events : List Event)
    → (side_in side (sides_of events)).no_message ≡ has_no_message side events
no_message_in Editor events = refl
no_message_in Server events = refl

-- ---- what follows from bytes that failed

-- an error without an id is one whatever it answers
nameless_outline : (m : Message) → is_nameless m ≡ is_nameless (outline m)
nameless_outline (response id (result value)) = refl
nameless_outline _ = refl

module _ (rule : ℕ) (side : Side) (s : Sides) (events : List Event) (are : s ≡ sides_of events)
  where
    pub fault_late : (nat_le rule rules.CHARSET_NOT_UTF_8 && (side_in side s).unread)
        ≡ follows_bytes rule events (fault side rule)
    fault_late =
        ap (λ w. nat_le rule rules.CHARSET_NOT_UTF_8 && (side_in side w).unread) are
        ∙ ap (λ b. nat_le rule rules.CHARSET_NOT_UTF_8 && b) (unread_in side events)

    pub message_late : (said : Message) (event : Event) → IsMessageOf side said event
        → message_follows rule said (side_in (other_side side) s)
        ≡ follows_bytes rule events event
    message_late said event is =
        let own = rule == rules.RESPONSE_TO_NO_OPEN_REQUEST in
        ap (λ w. message_follows rule said (side_in (other_side side) w)) are
        ∙ (λ i. wants_other rule && broken_in (other_side side) events i
        || own && (is_nameless said && no_message_in (other_side side) events i))
        ∙ ap (λ b. wants_other rule && has_broken (other_side side) events
        || own && (b && has_no_message (other_side side) events))
        (nameless_outline said ∙ ap is_nameless (sym is.3) ∙ sym (nameless_outline is.0.message))
        ∙ ap (λ by. wants_other rule && has_broken (other_side by) events
        || own && (is_nameless is.0.message && has_no_message (other_side by) events))
        (sym is.2)
        ∙ ap (follows_bytes rule events) (sym is.1)

pub message_after : (side : Side) (s : Sides) (said : Message) (event : Event)
    → IsMessageOf side said event
    → sides_read side s ≡ sides_after event s
message_after side s said event is =
    ap (λ by. sides_read by s) (sym is.2) ∙ ap (λ e. sides_after e s) (sym is.1)

-- a message answers nothing by failing
pub message_answers : (side : Side) (b : Bool) (kept : List Event) (said : Message) (event : Event)
    → IsMessageOf side said event → b ≡ (b || may_answer kept event)
message_answers side b kept said event is =
    sym (or-false b) ∙ ap (λ e. b || may_answer kept e) (sym is.1)
