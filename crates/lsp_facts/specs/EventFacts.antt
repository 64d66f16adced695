-- The facts on an event that offends, and on a stream or a log that has a fault.
use Rattle.std.specs.Prelude.{ℕ, suc, ◌-◌, nat_lt, List, [], ◌∷◌, ◌++◌, length, map, take, Option}
use Rattle.std.specs.Prelude.{Some, None, if◌then◌else◌, option_map, ◌==◌, option_to_list}
use Rattle.std.specs.Prelude.{unwrap_or, codes, ◌&&◌, nat_le, drop, Bool, option_and_then, decimal}
use Rattle.std.specs.Prelude.{◌≡◌, true, false}
use Rattle.std.specs.List.{flat_map, prefix_len}
use Rattle.std.specs.Str.Lossy.{utf8_valid_len}
use Rattle.std.specs.Bool.{then_some}
use Rattle.std.specs.Option.{option_or}
use Rattle.json.specs.Print.{quoted}
use Rattle.lsp_rpc.specs.Act.{Picked, progress, register}
use Rattle.lsp_replay.specs.Common.{Act, broken, Call, call_at, calls, encoding, Event, id_text}
use Rattle.lsp_replay.specs.Common.{Ident, is_within, Message, message, notification, Offer}
use Rattle.lsp_replay.specs.Common.{open_initializes, phase, picked_at, request, response, Rests}
use Rattle.lsp_replay.specs.Common.{Sent, sent_in, Settled, show, Side, snapshot, Terms, Text}
use Rattle.lsp_replay.specs.Common.{Utf16, Who}
use Rattle.lsp_rpc.specs.Words.{response_id_text}
use Rattle.lsp_session.specs.Handshake.{settled_by}
use Rattle.lsp_session.specs.Negotiation.{is_synchronisation}
use Rattle.lsp_verdict.specs.Report.{line}
use Rattle.lsp_verdict.specs.declared.verdict.Who.TheVariants as who
use Rattle.lsp_verdict.specs.Event.{fault}
use Rattle.lsp_verdict.specs.Heard.{behind_at, rest_of}
use Rattle.lsp_verdict.specs.Placed as placed
use Rattle.lsp_verdict.specs.Placed.{Raw}
use Rattle.lsp_frame.specs.Front.{shown_bytes, header_front}
use Rattle.lsp_types.specs.declared.rules.TheConstants as rules
use Rattle.lsp_types.specs.declared.side.Side.TheVariants.{Editor, Server}
use Rattle.lsp_facts.specs.Fact.{Fact, in_phase, more_words, spaced, content_message}
use Rattle.lsp_facts.specs.FrameFronts.{ends_with_lf}
use Rattle.lsp_facts.specs.Members.{Pointer, wrong_result, wrong_member}
use Rattle.lsp_facts.specs.Grammar.{json_break}
use Rattle.lsp_facts.specs.DocumentFacts.{AreDocumentFacts}
use Rattle.lsp_facts.specs.Whole.{whole_facts}
use Rattle.lsp_facts.specs.declared.earlier.Earlier.{Earlier}

-- ---- bytes that are shown as text

-- the longest front of some bytes that is UTF-8
abbrev pub text_front : List ℕ → List ℕ
text_front bytes = take (utf8_valid_len bytes) bytes

-- as much of that as lies within so many bytes
abbrev pub shown : ℕ → List ℕ → List ℕ
shown most bytes = text_front (take most bytes)

-- how some bytes begin
abbrev pub front_facts : List ℕ → List Fact
front_facts bytes = line (codes "begins" ∷ quoted (shown shown_bytes bytes) ∷ []) ∷ []

abbrev pub member_facts : Option Pointer → List Fact
member_facts found = option_to_list
    (option_map (λ pointer. line (codes "member" ∷ quoted pointer ∷ [])) found)

-- ---- ids: 301 and 302

-- the id in a message, if it has one
abbrev pub id_in : Message → Option Ident
id_in (request id method params) = Some id
id_in (notification method params) = None
id_in (response id reply) = id

-- null, where it has none
abbrev pub id_fact : Message → Fact
id_fact said = line (codes "id" ∷ response_id_text (id_in said) ∷ [])

-- ---- progress that comes too early: 412

-- the token of the first of these offers, if it has one
abbrev pub token_of : List Offer → Option Ident
token_of [] = None
token_of (offer ∷ rest) = offer.token

-- the token of a progress, and the one that it may have: that of the open `initialize`
abbrev pub token_facts : List Sent → Act → List Fact
token_facts before (progress token) = line (codes "token" ∷ id_text token ∷ [])
    ∷ option_to_list (option_map (λ own. line (codes "expected" ∷ id_text own ∷ []))
    (token_of (map (λ i. i.offer) (open_initializes before))))
token_facts before _ = []

abbrev pub early_facts : ℕ → List Sent → Act → List Fact
early_facts rule before act =
    if rule == rules.SERVER_WHILE_INITIALIZE_OPEN then token_facts before act else []

-- ---- what is agreed: 501 to 504

abbrev pub pick_facts : Option Picked → List Fact
pick_facts None = []
pick_facts (Some picked) = line (codes "picked" ∷ quoted picked.encoding ∷ []) ∷ []

-- how many bytes are shown of the names that an `initialize` offers, a byte more counted for each
abbrev pub offered_bytes : ℕ
offered_bytes = 256

-- how many of the first names fit into this many bytes
abbrev pub names_fitting : ℕ → List Text → ℕ
names_fitting room [] = 0
names_fitting room (name ∷ names) =
    if nat_lt (length name) room then suc (names_fitting (room - suc (length name)) names) else 0

-- as many of the first names as fit, and how many more there are
abbrev pub offer_fact : List Text → Fact
offer_fact names =
    let count = names_fitting offered_bytes names in
    codes "offered" ++ flat_map (λ name. spaced (quoted name)) (take count names)
    ++ more_words (length names - count) ++ 10 ∷ []

-- the encodings that were offered, and the one that is picked where the result has the shape, else
-- the member that does not
abbrev pub settled_facts : Option Settled → List Fact
settled_facts None = []
settled_facts (Some settled) =
    offer_fact (unwrap_or settled.offer.encodings [])
    ∷ (pick_facts (picked_at settled.value) ++ member_facts (wrong_result settled.value))

-- the first of the methods that is one of text synchronisation
abbrev pub first_synchronisation : List Text → Option Text
first_synchronisation [] = None
first_synchronisation (method ∷ methods) =
    if is_synchronisation method then Some method else first_synchronisation methods

abbrev pub registered : Act → Option Text
registered (register methods) = first_synchronisation methods
registered _ = None

abbrev pub register_facts : Act → List Fact
register_facts act = option_to_list
    (option_map (λ method. line (codes "registers" ∷ quoted method ∷ [])) (registered act))

-- ---- a message that breaks this rule

abbrev pub session_facts : ℕ → List Sent → Sent → List Fact
session_facts rule before m =
    if is_within rules.RESPONSE_TO_NO_OPEN_REQUEST rules.ID_ALREADY_OPEN rule
    then id_fact m.message ∷ []
    else (if is_within rules.EDITOR_BEFORE_INITIALIZE rules.SERVER_WHILE_INITIALIZE_OPEN rule
    then early_facts rule before m.act ++ in_phase (phase before) ∷ []
    else (if is_within rules.BAD_INITIALIZE_RESULT rules.ENCODING_OUTSIDE_PROFILE rule
    then settled_facts (settled_by before m)
    else register_facts m.act))

-- ---- 201: where the content is no longer the front of a JSON text

-- the first byte at which it is not UTF-8
abbrev pub utf8_break : List ℕ → Option ℕ
utf8_break content =
    then_some (nat_lt (length (text_front content)) (length content)) (length (text_front content))

-- how many bytes come before that place
abbrev pub content_break : List ℕ → Option ℕ
content_break content = option_or (json_break (text_front content)) (utf8_break content)

-- how many bytes are shown before it, and how many from it on
abbrev pub around_bytes : ℕ
around_bytes = 32

-- it is no first byte of a character
abbrev pub is_continuation : ℕ → Bool
is_continuation byte = nat_le 128 byte && nat_lt byte 192

-- some bytes from the first whole character on
abbrev pub from_character : List ℕ → List ℕ
from_character bytes = text_front (drop (prefix_len is_continuation bytes) bytes)

-- the bytes between two places
abbrev pub part : List ℕ → ℕ → ℕ → List ℕ
part bytes from end = take (end - from) (drop from bytes)

abbrev pub place_facts : List ℕ → ℕ → List Fact
place_facts content n =
    line (codes "breaks" ∷ decimal n ∷ [])
    ∷ line (codes "before" ∷ quoted (from_character (part content (n - around_bytes) n)) ∷ [])
    ∷ line (codes "after" ∷ quoted (shown around_bytes (drop n content)) ∷ [])
    ∷ []

abbrev pub break_facts : List ℕ → Option ℕ → List Fact
break_facts content None = []
break_facts content (Some n) = place_facts content n

-- and how long the content is where with bytes behind it, it is a JSON text
abbrev pub no_json_facts : List ℕ → List ℕ → List Fact
no_json_facts content behind =
    break_facts content (content_break content) ++ whole_facts content behind

-- ---- 209

-- the member that does not have its shape
abbrev pub wrong_in : List ℕ → Option (List ℕ)
wrong_in content = option_and_then wrong_member (content_message content)

-- what is wrong with it, as far as the rule does not say it
abbrev pub reason_facts : ℕ → List ℕ → List ℕ → List Fact
reason_facts rule content behind =
    if rule == rules.CONTENT_NOT_JSON then no_json_facts content behind
    else (if rule == rules.BAD_METHOD_PARAMS then member_facts (wrong_in content) else [])

-- **a content that breaks this rule**, and the bytes at hand behind it
abbrev pub content_facts : ℕ → List ℕ → List ℕ → List Fact
content_facts rule content behind = front_facts content ++ reason_facts rule content behind

-- ---- frames: 101 to 107

-- the side whose event it is; a snapshot is the editor's
abbrev pub side_by : Who → Side
side_by who.Server = Server
side_by _ = Editor

abbrev pub ending_facts : List ℕ → List Fact
ending_facts bytes =
    if ends_with_lf bytes then line (codes "header-ends" ∷ codes "lf" ∷ []) ∷ [] else []

-- how a header part begins, and how its first line ends, where that is with LF alone
abbrev pub header_facts : List ℕ → List Fact
header_facts bytes = front_facts bytes ++ ending_facts bytes

-- 101 to 106 lie in a header part, found in these bytes; the bytes after it are not looked
-- at, since more of them may follow. 107 describes all that there is of the last frame
abbrev pub frame_facts : List ℕ → List Fact
frame_facts rest = header_facts (header_front rest)

-- ---- logs

-- of a fault at the record of this number, which begins after this many bytes, where this line is
abbrev pub flaw_facts : ℕ → ℕ → List ℕ → List Fact
flaw_facts number place found =
    line (codes "record" ∷ decimal number ∷ [])
    ∷ line (codes "byte" ∷ decimal place ∷ [])
    ∷ line (codes "found" ∷ quoted (text_front found) ∷ [])
    ∷ []

-- ---- any event that offends

-- of a content that breaks this rule, which comes after these events, or of the header part that
-- has a fault of the frames; these are the rests of both sides' whole streams
abbrev pub fault_facts : Rests → List Event → ℕ → Raw → List Fact
fault_facts rests before rule (placed.content side bytes) =
    content_facts rule bytes (behind_at rests before side)
fault_facts rests before rule (broken side code) = frame_facts (rest_of rests side)
fault_facts rests before rule (show number uri text) = []

-- a call on a document that breaks this rule after the kept events, of which this is known
abbrev pub AreCallFacts : Terms → List Event → ℕ → Option Call → Earlier → List Fact → Type 0
AreCallFacts terms kept rule None earlier facts = facts ≡ []
AreCallFacts terms kept rule (Some call) earlier facts =
    AreDocumentFacts terms (unwrap_or (encoding (sent_in kept)) Utf16) (calls kept) call rule
    earlier facts

-- 301 to 504 are broken by the message, 601 to 702 by what it says about a document
abbrev pub AreFactsBy : Bool → Terms → List Event → Sent → ℕ → Earlier → List Fact → Type 0
AreFactsBy true terms kept m rule earlier facts = facts ≡ session_facts rule (sent_in kept) m
AreFactsBy false terms kept m rule earlier facts =
    AreCallFacts terms kept rule (call_at kept (message m)) earlier facts

abbrev pub AreMessageFacts : Terms → List Event → Sent → ℕ → Earlier → List Fact → Type 0
AreMessageFacts terms kept m rule earlier facts =
    AreFactsBy (nat_lt rule rules.FIRST_ON_DOCUMENTS) terms kept m rule earlier facts

-- **the facts on an event that offends by this rule after these events and the kept ones of them**,
-- of which this is known
abbrev pub AreFacts : Rests → List Event → Terms → List Event → Raw → Event → ℕ → Earlier
    → List Fact → Type 0
AreFacts rests before terms kept raw (fault side number) rule earlier facts =
    facts ≡ fault_facts rests before rule raw
AreFacts rests before terms kept raw (message m) rule earlier facts =
    AreMessageFacts terms kept m rule earlier facts
AreFacts rests before terms kept raw (snapshot uri number text) rule earlier facts =
    AreCallFacts terms kept rule (call_at kept (snapshot uri number text)) earlier facts
