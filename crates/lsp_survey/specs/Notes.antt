-- What is noted of documents, of requests and of the bytes of both sides.
use Rattle.std.specs.Prelude.{List, Option, ℕ, option_map, string_bytes, ◌≡◌, Bool, true}
use Rattle.std.specs.Prelude.{false, not, ◌||◌, ◌==◌, if◌then◌else◌, Some, None, is_some}
use Rattle.std.specs.Prelude.{option_and_then, unwrap_or, Vec, ◌&&◌, nat_le}
use Rattle.std.specs.Map.{lookup}
use Rattle.std.specs.Global.{Global}
use Rattle.std.specs.Str.{bytes_eq}
use Rattle.lsp_replay.specs.Common.{answered_by, answered_from, asked_by, asked_from, asks}
use Rattle.lsp_replay.specs.Common.{brought_by, Call, Event, folded, Id, id_view, Ident}
use Rattle.lsp_replay.specs.Common.{is_nameless, is_within, Message, message, passes, request_id}
use Rattle.lsp_replay.specs.Common.{same_id, same_side, Side, snapshot, uri_of, wants_other}
use Rattle.lsp_verdict.specs.Offences.{left_by}
use Rattle.lsp_verdict.specs.Offences.{has_broken, has_no_message, is_unread}
use Rattle.lsp_verdict.specs.Spelling.{is_alike}
use Rattle.lsp_verdict.specs.Event.{fault}
use Rattle.lsp_types.specs.declared.rules.TheConstants as rules
use Rattle.lsp_types.specs.declared.side.Side.TheVariants.{Editor, Server}
use Rattle.lsp_uris.specs.Held.{asked_in, has_uri}
use Rattle.lsp_survey.specs.declared.notes.malformed.Malformed.{Malformed}
use Rattle.lsp_survey.specs.declared.notes.note.Spelling.{Spelling}
use Rattle.lsp_survey.specs.declared.notes.passed.Passed.{Passed}
use Rattle.lsp_survey.specs.declared.notes.sides.SideNote.{SideNote}
use Rattle.lsp_survey.specs.declared.notes.sides.Sides.{Sides}

-- ---- documents that are lost

-- whether the document of this URI is lost, of those of one spelling
abbrev pub is_lost_in : Spelling → List ℕ → Bool
is_lost_in s uri = if has_uri s.others.entries uri then not s.lost else s.lost

abbrev pub lost_among : Option Spelling → List ℕ → Bool
lost_among None uri = false
lost_among (Some s) uri = is_lost_in s uri

-- what is noted of the documents of this spelling
abbrev pub spelling_in : List (Vec ℕ Global × Spelling) → List ℕ → Option Spelling
spelling_in notes key = lookup (λ k. bytes_eq key k.items) notes

-- this is noted of the spelling, and of all others what was
abbrev pub PutsSpelling : List ℕ → Option Spelling → List (Vec ℕ Global × Spelling)
    → List (Vec ℕ Global × Spelling) → Type 0
PutsSpelling key o old new =
    (k : List ℕ) → spelling_in new k ≡ (if bytes_eq key k then o else spelling_in old k)

-- **the document of this URI is noted as lost**
abbrev pub is_noted : List (Vec ℕ Global × Spelling) → List ℕ → Bool
is_noted notes uri = lost_among (spelling_in notes (folded uri)) uri

-- it is now, or is not, and all others are as they were
abbrev pub Sets : List ℕ → Bool → List (Vec ℕ Global × Spelling)
    → List (Vec ℕ Global × Spelling) → Type 0
Sets uri lost old new =
    (u : List ℕ) → is_noted new u ≡ (if bytes_eq uri u then lost else is_noted old u)

-- each document is now of which the URI differs from this one in its spelling alone
abbrev pub SetsAlike : List ℕ → List (Vec ℕ Global × Spelling)
    → List (Vec ℕ Global × Spelling) → Type 0
SetsAlike uri old new =
    (u : List ℕ) → is_noted new u ≡ (if is_alike uri u then true else is_noted old u)

-- ---- what events leave of them

-- the notes after an event that was to bring the text of a document, or says this about one, opens
-- it again with another text or does not, and offends by the rule or is kept
abbrev pub Leaves : Option ℕ → Option (List ℕ) → Bool → Option Call
    → List (Vec ℕ Global × Spelling) → List (Vec ℕ Global × Spelling) → Type 0
Leaves rule brought other said old new =
    (uri : List ℕ) → is_noted new uri
    ≡ unwrap_or (left_by uri rule brought other said) (is_noted old uri)

-- the notes after an event that is kept and says this of a document
abbrev pub AreAfter : Option Call → List (Vec ℕ Global × Spelling)
    → List (Vec ℕ Global × Spelling) → Type 0
AreAfter said old new = Leaves None None false said old new

-- a document is noted as lost of which this is said
abbrev pub is_noted_lost : List (Vec ℕ Global × Spelling) → Option Call → Bool
is_noted_lost notes None = false
is_noted_lost notes (Some call) = is_noted notes (uri_of call)

-- ---- a malformed message

-- what this message was to do, if a content reads as one
pub record IsMeant (m : Option Message) (meant : Malformed) : Type 0 where
  pub asks : meant.asks ≡ asks m
  pub brings : option_map string_bytes meant.brings ≡ option_and_then brought_by m
  pub asked : option_map id_view meant.asked ≡ option_and_then request_id m

-- ---- what is noted of the requests that were passed over

-- whether a request of this side with this id is noted
abbrev pub has_passed : Passed → Side → Ident → Bool
has_passed p Editor id = is_some (asked_in p.editor.entries id)
has_passed p Server id = is_some (asked_in p.server.entries id)

abbrev pub has_any : Passed → Side → Option Ident → Bool
has_any p side None = false
has_any p side (Some id) = has_passed p side id

-- a request of this side with this id is noted, or no more
abbrev pub SetsRequest : Side → Ident → Bool → Passed → Passed → Type 0
SetsRequest by id noted old new =
    (side : Side) (k : Id) → has_passed new side (id_view k)
    ≡ (if same_side side by && same_id id (id_view k) then noted
    else has_passed old side (id_view k))

-- a request of this side is noted, if there is one
abbrev pub SetsAny : Side → Option Ident → Passed → Passed → Type 0
SetsAny by None old new = new ≡ old
SetsAny by (Some id) old new = SetsRequest by id true old new

-- a message of the sender that breaks this rule is noted
abbrev pub Passes : ℕ → Side → Message → Passed → Passed → Type 0
Passes rule sender m old new =
    (side : Side) (k : Id) → has_passed new side (id_view k)
    ≡ unwrap_or (passes (asked_from side sender m) (answered_from side sender m) (id_view k) rule)
    (has_passed old side (id_view k))

-- an event that offends by the rule, or is kept, is noted
abbrev pub ArePassed : Option ℕ → Event → Option Message → Passed → Passed → Type 0
ArePassed rule event malformed old new =
    (side : Side) (k : Id) → has_passed new side (id_view k)
    ≡ unwrap_or (option_and_then (passes (asked_by side event malformed) (answered_by side event)
    (id_view k)) rule) (has_passed old side (id_view k))

-- ---- what is noted of the bytes of both sides

-- what is noted of this side
abbrev pub side_in : Side → Sides → SideNote
side_in Editor s = s.editor
side_in Server s = s.server

-- **what is to be noted of this side after these events**
abbrev pub side_of : Side → List Event → SideNote
side_of side events = record {
  broken = has_broken side events;
  unread = is_unread side events;
  no_message = has_no_message side events;
}

abbrev pub sides_of : List Event → Sides
sides_of events = record {
  editor = side_of Editor events;
  server = side_of Server events;
}

-- after a message
abbrev pub read_on : SideNote → SideNote
read_on old = record { broken = old.broken; unread = false; no_message = old.no_message }

-- after a frame or a content that breaks this rule
abbrev pub failed_on : ℕ → SideNote → SideNote
failed_on rule old = record {
  broken = old.broken || nat_le rule rules.CHARSET_NOT_UTF_8;
  unread = rule == rules.CONTENT_NOT_JSON;
  no_message = old.no_message || is_within rules.CONTENT_NOT_JSON rules.BAD_ERROR_OBJECT rule;
}

-- after a message of this side
abbrev pub sides_read : Side → Sides → Sides
sides_read side old = record {
  editor = if same_side Editor side then read_on old.editor else old.editor;
  server = if same_side Server side then read_on old.server else old.server;
}

-- after a frame or a content of this side that breaks this rule
abbrev pub sides_failed : Side → ℕ → Sides → Sides
sides_failed side rule old = record {
  editor = if same_side Editor side then failed_on rule old.editor else old.editor;
  server = if same_side Server side then failed_on rule old.server else old.server;
}

-- after this event
abbrev pub sides_after : Event → Sides → Sides
sides_after (message m) old = sides_read m.side old
sides_after (fault side rule) old = sides_failed side rule old
sides_after (snapshot uri number text) old = old

-- a message that breaks this rule answers a content of the other side that was no message, where
-- this is noted of that side
abbrev pub answers_noted : ℕ → Message → SideNote → Bool
answers_noted rule m other = rule == rules.RESPONSE_TO_NO_OPEN_REQUEST
    && (is_nameless m && other.no_message)

-- it follows from what failed of the other side
abbrev pub message_follows : ℕ → Message → SideNote → Bool
message_follows rule m other = wants_other rule && other.broken || answers_noted rule m other
