-- All offences of a session: which events are kept, which offend after the kept ones before them,
-- and which offences follow from an earlier one.
use Rattle.std.specs.Prelude.{◌≡◌, ℕ, List, [], ◌∷◌, ◌++◌, map, Bool, true, false, ◌&&◌, ◌||◌, not}
use Rattle.std.specs.Prelude.{◌==◌, nat_le, if◌then◌else◌, Option, Some, None, is_some, is_none}
use Rattle.std.specs.Prelude.{option_map, option_and_then, codes}
use Rattle.std.specs.List.{AllZip, filter_map, list_any}
use Rattle.std.specs.Option.{option_or}
use Rattle.std.specs.Ordering.{int_eq}
use Rattle.std.specs.Str.{bytes_eq}
use Rattle.lsp_frame.specs.Bounds.{Bounds}
use Rattle.lsp_rpc.specs.Ident.{Ident}
use Rattle.lsp_rpc.specs.Message.{Message, request, notification, response, error}
use Rattle.lsp_rpc.specs.Params.{required, uri_at}
use Rattle.lsp_rpc.specs.Reading as content
use Rattle.lsp_types.specs.declared.side.Side.{Side}
use Rattle.lsp_types.specs.declared.side.Side.TheVariants.{Editor, Server}
use Rattle.lsp_session.specs.Handshake.{is_done, is_empty, open_initializes}
use Rattle.lsp_session.specs.Requests.{names}
use Rattle.lsp_session.specs.Sent.{Sent, answered_from, other_side, request_of, response_id}
use Rattle.lsp_session.specs.Sent.{same_side}
use Rattle.lsp_text.specs.Edits.{Edit}
use Rattle.lsp_docs.specs.Calls.{Call, opens, changes, uri_of}
use Rattle.lsp_docs.specs.Documents.{Version, held, Terms}
use Rattle.lsp_text.specs.SameText.{same_text}
use Rattle.lsp_log.specs.Log.{Record}
use Rattle.lsp_verdict.specs.Event.{call_at, calls, Event, message, fault, snapshot, sent_in}
use Rattle.lsp_verdict.specs.LookBack.{first_of, each_of}
use Rattle.lsp_verdict.specs.Placed as placed
use Rattle.lsp_verdict.specs.Placed.{Raw, Placed, Reads}
use Rattle.lsp_verdict.specs.Spelling.{is_alike}
use Rattle.lsp_verdict.specs.Verdict.{Verdict, offence, no_by}
use Rattle.lsp_types.specs.declared.rules.TheConstants as rules

-- ---- the events that are kept

-- after events that were kept, those of these that are: an event that offends is skipped, as if it
-- had not been sent
abbrev pub kept_after : Terms → List Event → List Event → List Event
kept_after terms before [] = before
kept_after terms before (event ∷ after) = kept_after terms (if is_some (offence terms before event) then before else before ++ event ∷ []) after

-- **the events that are kept**
abbrev pub kept_of : Terms → List Event → List Event
kept_of terms events = kept_after terms [] events

-- **the least rule that an event offends after the kept ones of those before it**
abbrev pub rule_at : Terms → List Event → Event → Option ℕ
rule_at terms before event = offence terms (kept_of terms before) event

-- what the event says about a document, under what the kept events before it agreed
abbrev pub said_at : Terms → List Event → Event → Option Call
said_at terms before event = call_at (kept_of terms before) event

-- ---- what an event is noted as

-- an event; and where its content is refused though it is a message, this message: its params do
-- not have their shape
pub record Noted : Type 0 where
  pub event : Event
  pub malformed : Option Message

abbrev pub events_of : List Noted → List Event
events_of notes = map (λ (n : Noted). n.event) notes

-- the message that a content reads as, if it reads as one
abbrev pub IsReading : List ℕ → Option Message → Type 0
IsReading bytes (Some m) = content.Reads bytes m
IsReading bytes None = (m : Message) → content.Reads bytes m → ⊥

abbrev pub IsMalformed : Raw → Event → Option Message → Type 0
IsMalformed (placed.content side bytes) (fault by rule) m = IsReading bytes m
IsMalformed raw event m = m ≡ None

abbrev pub IsNoted : Raw → Noted → Type 0
IsNoted raw n = Reads raw n.event × IsMalformed raw n.event n.malformed

-- the records are a session of these events
abbrev pub IsNotedSession : Bounds → List Record → List Noted → Type 0
IsNotedSession limits records notes = (raws : List Raw) × Placed limits records raws × AllZip IsNoted raws notes

-- ---- a document is lost, and found again

-- after the call its sender has another text of the document: it opens it, or changes it
abbrev pub sets_text : Call → Bool
sets_text (opens uri number text) = true
sets_text (changes enc kind uri number (edit ∷ edits)) = true
sets_text _ = false

abbrev pub is_within : ℕ → ℕ → ℕ → Bool
is_within least most rule = nat_le least rule && nat_le rule most

-- the call opens a document with another version or text than this one, which is held
abbrev pub is_other : Terms → Call → Option Version → Bool
is_other terms (opens uri number text) (Some v) =
    not (int_eq v.number number && same_text terms.line_ends v.text text)
is_other terms call now = false

-- this opens a document again, with another version or text than is held of it after these calls
abbrev pub is_reopened : Terms → List Call → Option Call → Bool
is_reopened terms made None = false
is_reopened terms made (Some call) = is_other terms call (held terms (uri_of call) made)

-- a call that offends by this rule leaves the held text another than the sender's: 601 where it
-- opens the document with another version or text, each other rule where it sets a text, and 602,
-- 608 and 702
abbrev pub loses : ℕ → Bool → Call → Bool
loses rule other call =
    if rule == rules.DOCUMENT_ALREADY_OPEN then other
    else sets_text call || (rule == rules.DOCUMENT_NOT_OPEN ||
    (rule == rules.SAVED_TEXT_DIFFERS || rule == rules.SNAPSHOT_DIFFERS))

-- the call gives the whole text again
abbrev pub renews : Call → Bool
renews (opens uri number text) = true
renews (changes enc kind uri number edits) = list_any (λ (edit : Edit). is_none edit.span) edits
renews _ = false

-- whether a call leaves documents lost that it concerns, where it says anything of that: it
-- offends by this rule, or is kept, and opens its document again with another text or does not
abbrev pub left_lost : Option ℕ → Bool → Call → Option Bool
left_lost (Some rule) other call = if loses rule other call then Some true else None
left_lost None other call = if renews call then Some false else None

-- a call that offends by this rule, or is kept, concerns the document of this URI: it is about it,
-- or it is about none that is open (602), and its URI differs from this one in its spelling alone
abbrev pub concerns : List ℕ → Option ℕ → Call → Bool
concerns uri None call = bytes_eq uri (uri_of call)
concerns uri (Some rule) call =
    if rule == rules.DOCUMENT_NOT_OPEN then is_alike (uri_of call) uri
    else bytes_eq uri (uri_of call)

-- the notification opens a document or changes it
abbrev pub brings_text : List ℕ → Bool
brings_text method = bytes_eq method (codes "textDocument/didOpen")
    || bytes_eq method (codes "textDocument/didChange")

-- the document that a message opens or changes, whatever else its params have
abbrev pub brought_by : Message → Option (List ℕ)
brought_by (notification method params) =
    if brings_text method then option_and_then (required (codes "textDocument") uri_at) params
    else None
brought_by _ = None

-- whether the document of this URI is left lost where this one was to be brought a text, by a
-- message whose params do not have their shape
abbrev pub left_without : List ℕ → Option ℕ → Option (List ℕ) → Option Bool
left_without uri rule None = None
left_without uri rule (Some brought) = option_and_then (λ r.
    if r == rules.BAD_METHOD_PARAMS && bytes_eq uri brought then Some true else None) rule

-- whether an event leaves the document of this URI lost that offends by this rule, or is kept: it
-- was to bring the text of a document, or says this about one, and opens it again with another text
-- or does not
abbrev pub left_by : List ℕ → Option ℕ → Option (List ℕ) → Bool → Option Call → Option Bool
left_by uri rule brought other said = option_or (left_without uri rule brought)
    (option_and_then (λ call.
    if concerns uri rule call then left_lost rule other call else None) said)

abbrev pub lost_by : Terms → List ℕ → List Noted → Noted → Option Bool
lost_by terms uri before n =
    left_by uri (rule_at terms (events_of before) n.event)
    (option_and_then brought_by n.malformed)
    (is_reopened terms (calls (kept_of terms (events_of before)))
    (said_at terms (events_of before) n.event))
    (said_at terms (events_of before) n.event)

-- the last of these, or what stands where there is none
abbrev pub last_or : {A : Type 0} → A → List A → A
last_or none [] = none
last_or none (x ∷ xs) = last_or x xs

-- **the document of this URI is lost after these events**: the last one that says anything about
-- that left it so
abbrev pub is_lost : Terms → List ℕ → List Noted → Bool
is_lost terms uri before = last_or false (each_of (lost_by terms uri) before)

-- ---- all documents are lost

-- 504: an event that offends by this rule registers synchronisation, which is not followed
abbrev pub leaves_unsynced : ℕ → Event → Bool
leaves_unsynced rule (message m) = rule == rules.DYNAMIC_REGISTRATION
leaves_unsynced rule _ = false

abbrev pub unsynced_by : Terms → List Noted → Noted → Option ℕ
unsynced_by terms before n =
    option_and_then (λ rule. if leaves_unsynced rule n.event then Some rule else None)
    (rule_at terms (events_of before) n.event)

-- **synchronisation was registered later**: what the server gets to know of any document is not
-- known from then on
abbrev pub is_unsynced : Terms → List Noted → Bool
is_unsynced terms before = is_some (first_of (unsynced_by terms) before)

-- ---- the handshake is lost

abbrev pub asks_handshake : Message → Bool
asks_handshake (request id method params) = bytes_eq method (codes "initialize")
asks_handshake _ = false

-- the message asks for the handshake
abbrev pub asks : Option Message → Bool
asks None = false
asks (Some m) = asks_handshake m

-- an `initialize` that does not have its shape, or an answer to one that is refused
abbrev pub breaks_handshake : Bool → ℕ → Bool
breaks_handshake asked rule = rule == rules.BAD_METHOD_PARAMS && asked
    || is_within rules.BAD_INITIALIZE_RESULT rules.ENCODING_OUTSIDE_PROFILE rule

-- after these kept events, what cannot be read may be the answer to an `initialize`: it is the
-- server's, and one is open
abbrev pub may_answer : List Event → Event → Bool
may_answer kept (fault Server rule) = not (is_empty (open_initializes (sent_in kept)))
may_answer kept _ = false

abbrev pub broken_by : Terms → List Noted → Noted → Option ℕ
broken_by terms before n =
    option_and_then (λ rule.
    if breaks_handshake (asks n.malformed) rule || may_answer (kept_of terms (events_of before)) n.event
    then Some rule else None) (rule_at terms (events_of before) n.event)

-- **the handshake is lost after these events**: an event of it was refused, and no answer has
-- settled it
abbrev pub is_handshake_lost : Terms → List Noted → Bool
is_handshake_lost terms before = is_some (first_of (broken_by terms) before) && not (is_done (sent_in (kept_of terms (events_of before))))

-- ---- the bytes of a side fail

-- 101 to 106: the frames of this side have a fault, after which its stream is at its end
abbrev pub is_frame_fault : Side → Event → Bool
is_frame_fault side (fault by rule) = same_side side by && nat_le rule rules.CHARSET_NOT_UTF_8
is_frame_fault side _ = false

-- **the frames of this side broke**: nothing is heard of what it sends later
abbrev pub has_broken : Side → List Event → Bool
has_broken side events = list_any (is_frame_fault side) events

-- whether an event, if it is one of this side, is a content that is not JSON
abbrev pub unread_by : Side → Event → Option Bool
unread_by side (message m) = if same_side side m.side then Some false else None
unread_by side (fault by rule) =
    if same_side side by then Some (rule == rules.CONTENT_NOT_JSON) else None
unread_by side (snapshot uri number text) = None

-- **the last event of this side is a content that is not JSON**, as where its length is wrong
abbrev pub is_unread : Side → List Event → Bool
is_unread side events = last_or false (filter_map (unread_by side) events)

-- the rules that a side breaks where what the other sends is not heard: 301, 402, 411, 412
abbrev pub wants_other : ℕ → Bool
wants_other rule = rule == rules.RESPONSE_TO_NO_OPEN_REQUEST
    || (rule == rules.EDITOR_WHILE_INITIALIZE_OPEN
    || is_within rules.SERVER_BEFORE_INITIALIZE rules.SERVER_WHILE_INITIALIZE_OPEN rule)

-- 201 to 208: an event of this side is a content that is no message
abbrev pub is_no_message : Side → Event → Bool
is_no_message side (fault by rule) =
    same_side side by && is_within rules.CONTENT_NOT_JSON rules.BAD_ERROR_OBJECT rule
is_no_message side _ = false

-- **a content of this side was no message**: the other side may answer that it cannot read it
abbrev pub has_no_message : Side → List Event → Bool
has_no_message side events = list_any (is_no_message side) events

-- an error whose id is null, as JSON-RPC 2.0 ("Response object") wants it where none can be read
abbrev pub is_nameless : Message → Bool
is_nameless (response id (error code)) = is_none id
is_nameless _ = false

-- 301: the message answers a content of the other side that was no message
abbrev pub answers_content : ℕ → List Event → Sent → Bool
answers_content rule before m = rule == rules.RESPONSE_TO_NO_OPEN_REQUEST
    && (is_nameless m.message && has_no_message (other_side m.side) before)

-- **an offence of this event, by this rule, follows from bytes that failed before**: the frames of
-- the other side, a content of it that was no message, or the content in front of a fault of the
-- frames
abbrev pub follows_bytes : ℕ → List Event → Event → Bool
follows_bytes rule before (message m) =
    wants_other rule && has_broken (other_side m.side) before || answers_content rule before m
follows_bytes rule before (fault side code) =
    nat_le rule rules.CHARSET_NOT_UTF_8 && is_unread side before
follows_bytes rule before (snapshot uri number text) = false

-- ---- a request is passed over

-- the id of a request
abbrev pub request_id : Message → Option Ident
request_id m = option_map (λ asked. asked.0) (request_of m)

-- the id of this side's request that a message of the sender is
abbrev pub asked_from : Side → Side → Message → Option Ident
asked_from side sender m = if same_side side sender then request_id m else None

-- the id of this side's request that an event is, also where its params do not have their shape
abbrev pub asked_by : Side → Event → Option Message → Option Ident
asked_by side (message m) malformed = asked_from side m.side m.message
asked_by side (fault by rule) malformed = option_and_then (asked_from side by) malformed
asked_by side (snapshot uri number text) malformed = None

-- the id of this side's request that an event answers
abbrev pub answered_by : Side → Event → Option Ident
answered_by side (message m) = answered_from side m.side m.message
answered_by side _ = None

-- what an event that offends by this rule does to the request with this id: it asks the one, which
-- is passed over, or answers the other, so that no answer is left
abbrev pub passes : Option Ident → Option Ident → Ident → ℕ → Option Bool
passes asked answered id rule =
    if names asked id then Some true
    else (if names answered id && rule == rules.RESPONSE_TO_NO_OPEN_REQUEST then Some false
    else None)

abbrev pub passed_by : Terms → Side → Ident → List Noted → Noted → Option Bool
passed_by terms side id before n =
    option_and_then (passes (asked_by side n.event n.malformed) (answered_by side n.event) id)
    (rule_at terms (events_of before) n.event)

-- **a request of this side with this id was passed over**, and no answer to it has come yet
abbrev pub is_passed : Terms → Side → Ident → List Noted → Bool
is_passed terms side id before = last_or false (each_of (passed_by terms side id) before)

abbrev pub is_any_passed : Terms → Side → Option Ident → List Noted → Bool
is_any_passed terms side None before = false
is_any_passed terms side (Some id) before = is_passed terms side id before

-- ---- `initialized` is passed over, or missing

-- the message is a notification `initialized`
abbrev pub tells_initialized : Message → Bool
tells_initialized (notification method params) = bytes_eq method (codes "initialized")
tells_initialized _ = false

-- the event is one of the editor's
abbrev pub is_initialized_by : Event → Bool
is_initialized_by (message m) = same_side Editor m.side && tells_initialized m.message
is_initialized_by _ = false

-- an event that offends by this rule leaves the server without an `initialized`: it is one, or
-- wants one before it
abbrev pub leaves_unheard : ℕ → Event → Bool
leaves_unheard rule (message m) =
    is_initialized_by (message m) || rule == rules.INITIALIZED_NOT_FIRST
leaves_unheard rule _ = false

abbrev pub unheard_by : Terms → List Noted → Noted → Option ℕ
unheard_by terms before n =
    option_and_then (λ rule. if leaves_unheard rule n.event then Some rule else None)
    (rule_at terms (events_of before) n.event)

-- **the editor's `initialized` was passed over, or is missing**: once one is kept, no 403 is broken
-- any more
abbrev pub is_unheard : Terms → List Noted → Bool
is_unheard terms before = is_some (first_of (unheard_by terms) before)

-- **an offence of this event, by this rule, follows from a message that was passed over**: it is
-- the answer to a request, or wants `initialized` before it, as an earlier one did in vain
abbrev pub follows_passed : Terms → ℕ → List Noted → Event → Bool
follows_passed terms rule before (message m) =
    rule == rules.RESPONSE_TO_NO_OPEN_REQUEST
    && is_any_passed terms (other_side m.side) (response_id m.message) before
    || rule == rules.INITIALIZED_NOT_FIRST && is_unheard terms before
follows_passed terms rule before _ = false

-- ---- what follows

-- the rules that are broken where there was no handshake: 301, 401, 402, 411, 412
abbrev pub wants_handshake : ℕ → Bool
wants_handshake rule = rule == rules.RESPONSE_TO_NO_OPEN_REQUEST ||
    (is_within rules.EDITOR_BEFORE_INITIALIZE rules.EDITOR_WHILE_INITIALIZE_OPEN rule || is_within
    rules.SERVER_BEFORE_INITIALIZE rules.SERVER_WHILE_INITIALIZE_OPEN rule)

-- the rules that are broken where the held text is another: 602 to 608, 702
abbrev pub wants_text : ℕ → Bool
wants_text rule = is_within rules.DOCUMENT_NOT_OPEN rules.SAVED_TEXT_DIFFERS rule
    || rule == rules.SNAPSHOT_DIFFERS

-- it speaks of a document that is lost, or of any after synchronisation was registered
abbrev pub is_on_lost : Terms → List Noted → Option Call → Bool
is_on_lost terms before None = false
is_on_lost terms before (Some call) = is_lost terms (uri_of call) before || is_unsynced terms before

-- **the offence of this event, by this rule, follows from an earlier one**
abbrev pub follows : Terms → List Noted → Noted → ℕ → Bool
follows terms before n rule =
    wants_handshake rule && is_handshake_lost terms before
    || (wants_text rule
    && is_on_lost terms before (said_at terms (events_of before) n.event)
    || (follows_passed terms rule before n.event
    || follows_bytes rule (events_of before) n.event))

-- ---- all offences

-- an offence: the No by it, its numbers as `check` counts them, and whether it follows from an
-- earlier one
pub record Offence : Type 0 where
  pub no : Verdict
  pub follows : Bool

abbrev pub offence_by : Terms → List Noted → Noted → ℕ → Offence
offence_by terms before n rule = record { no = no_by (events_of before) n.event rule; follows = follows terms before n rule }

abbrev pub offence_at : Terms → List Noted → Noted → Option Offence
offence_at terms before n = option_map (offence_by terms before n) (rule_at terms (events_of before) n.event)

-- **all offences of a session**, in order
abbrev pub offences : Terms → List Noted → List Offence
offences terms notes = each_of (offence_at terms) notes
