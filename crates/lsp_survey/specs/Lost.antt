-- What the offences so far have left lost.
use Rattle.std.specs.Prelude.{◌≡◌, ◌&&◌, ◌||◌, ◌∷◌, ◌++◌, [], ℕ, List, Bool, false, true, Option}
use Rattle.std.specs.Prelude.{None, Some, is_some, option_and_then, option_map, unwrap_or}
use Rattle.lsp_replay.specs.Common.{asks, breaks_handshake, broken, brought_by, Call, calls}
use Rattle.lsp_replay.specs.Common.{content, Event, events_of, first_of, follows, Heard, Id}
use Rattle.lsp_replay.specs.Common.{id_view, is_passed, is_reopened, is_unheard, kept_of}
use Rattle.lsp_replay.specs.Common.{leaves_unheard, leaves_unsynced, may_answer, Message, message}
use Rattle.lsp_replay.specs.Common.{Noted, notes_of, outline, rule_of, Sent, sent_in, show, Side}
use Rattle.lsp_replay.specs.Common.{Terms}
use Rattle.lsp_session.specs.State as session
use Rattle.lsp_session.specs.State.{Stands}
use Rattle.lsp_survey.specs.Notes.{Leaves, is_noted, ArePassed, has_passed, sides_after, sides_of}
use Rattle.lsp_survey.specs.declared.losses.Losses.{Losses}
use Rattle.lsp_verdict.specs.Offences.{broken_by}
use Rattle.lsp_verdict.specs.Offences.{is_handshake_lost, is_lost}
use Rattle.lsp_verdict.specs.Offences.{is_unsynced}
use Rattle.lsp_verdict.specs.Offences.{wants_handshake, wants_text}
use Rattle.lsp_verdict.specs.Placed.{Raw}

-- **on these terms this is lost after these events**
pub record AreLosses (terms : Terms) (l : Losses) (notes : List Noted) : Type 0 where
  pub noted : (uri : List ℕ) → is_noted l.documents.map.entries uri ≡ is_lost terms uri notes
  pub is_broken : l.handshake ≡ is_some (first_of (broken_by terms) notes)
  pub sided : l.sides ≡ sides_of (events_of notes)
  pub passed : (side : Side) (k : Id) → has_passed l.passed side (id_view k)
      ≡ is_passed terms side (id_view k) notes
  pub unheard : l.unheard ≡ is_unheard terms notes
  pub unsynced : l.unsynced ≡ is_unsynced terms notes

-- what is lost by an event that breaks this rule, or is kept, may have to be noted: nothing by a
-- fault of the frames, or a snapshot that is kept
abbrev pub may_lose : Raw → Option ℕ → Bool
may_lose (content side bytes) rule = true
may_lose (broken side by) rule = false
may_lose (show number uri text) rule = is_some rule

-- the session holds the messages of the kept ones of these events
abbrev pub HoldsSent : session.State → Terms → List Noted → Type 0
HoldsSent s terms before = Stands s (sent_in (kept_of terms (events_of before)))

-- an offence by this rule, which speaks of a lost document or doesn't, and arises from bytes that
-- failed or from a message that was passed over or doesn't, follows from an earlier one
abbrev pub follows_of : Terms → List Noted → ℕ → Bool → Bool → Bool
follows_of terms before rule on_lost late =
    wants_handshake rule && is_handshake_lost terms before || (wants_text rule && on_lost || late)

-- this message of the side, up to its params
abbrev pub IsMessageOf : Side → Message → Event → Type 0
IsMessageOf side said event =
    (sent : Sent) × (event ≡ message sent) × (sent.side ≡ side)
    × (outline sent.message ≡ outline said)

-- an event that offends by this rule, or is kept, breaks the handshake
abbrev pub breaks_by : Option ℕ → Option Message → Bool → Bool
breaks_by None malformed answers = false
breaks_by (Some rule) malformed answers = breaks_handshake (asks malformed) rule || answers

-- an event that offends by this rule, or is kept, leaves the server without an `initialized`
abbrev pub unheard_with : Option ℕ → Event → Bool
unheard_with None event = false
unheard_with (Some rule) event = leaves_unheard rule event

-- an event that offends by this rule, or is kept, registers synchronisation
abbrev pub unsynced_with : Option ℕ → Event → Bool
unsynced_with None event = false
unsynced_with (Some rule) event = leaves_unsynced rule event

-- **this event, which offends by this rule or is kept, was noted after these**: where its content
-- is malformed it is this message, and it says this about a document
pub record IsNotedIn (terms : Terms) (before : List Noted) (event : Event)
    (malformed : Option Message) (said : Option Call) (rule : Option ℕ) (old new : Losses) : Type 0
  where
    pub is_broken : new.handshake ≡ (old.handshake || breaks_by rule malformed
        (may_answer (kept_of terms (events_of before)) event))
    pub sides : new.sides ≡ sides_after event old.sides
    pub passed : ArePassed rule event malformed old.passed new.passed
    pub unheard : new.unheard ≡ (old.unheard || unheard_with rule event)
    pub unsynced : new.unsynced ≡ (old.unsynced || unsynced_with rule event)
    pub noted : Leaves rule (option_and_then brought_by malformed)
        (is_reopened terms (calls (kept_of terms (events_of before))) said) said
        old.documents.map.entries new.documents.map.entries

-- whether an event after these offends and follows from an earlier one
abbrev pub follows_at : Terms → List Heard → Heard → Bool
follows_at terms before h =
    unwrap_or (option_map (follows terms (notes_of before) h.note) (rule_of terms before h)) false

-- **it was told of this event after these**, which was found to follow from an earlier one or not
pub record WasTold (l : Losses) (terms : Terms) (before : List Heard) (h : Heard) (late : Bool)
    : Type 0 where
  pub late_is : late ≡ follows_at terms before h
  pub losses : AreLosses terms l (notes_of (before ++ h ∷ []))
