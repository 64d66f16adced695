-- Which event brought what: what is added to the facts on an offence.
use Rattle.std.specs.Prelude.{ℕ, ℤ, List, Option, Some, option_and_then, option_map, ◌-◌}
use Rattle.std.specs.Prelude.{int_lt, nat_lt, [], ◌∷◌, ◌++◌, map, take, drop, Bool, true, not, None}
use Rattle.std.specs.Prelude.{codes, decimal, length, false, ◌&&◌, ◌==◌, if◌then◌else◌}
use Rattle.std.specs.Prelude.{is_some, ◌≡◌, option_to_list, slice_get, unwrap_or}
use Rattle.std.specs.Bool.{then_some}
use Rattle.std.specs.Fmt.{signed_decimal}
use Rattle.std.specs.Str.{bytes_eq}
use Rattle.std.specs.Str.Parse.{signed_digits_value}
use Rattle.std.specs.List.{prefix_len, flat_map}
use Rattle.std.specs.Int.{int_gap}
use Rattle.lsp_rpc.specs.Ident as ident
use Rattle.lsp_trail.specs.Common.{asked, Call, calls, changes, closing_of, closings, Edit, Editor}
use Rattle.lsp_trail.specs.Common.{Event, EventPlace, fault, Ident, is_set_to, is_standing, kept_of}
use Rattle.lsp_trail.specs.Common.{last_change, last_ones, last_openings, last_setter, line}
use Rattle.lsp_trail.specs.Common.{message, Numbered, numbered, OnDocument, opens, other_side}
use Rattle.lsp_trail.specs.Common.{phase, place_of, recent, said_at, sents, shows, Side, since}
use Rattle.lsp_trail.specs.Common.{snapshot, steps, Terms, uri_of}
use Rattle.lsp_rpc.specs.Shape.{small}
use Rattle.lsp_rpc.specs.Words.{id_text}
use Rattle.lsp_facts.specs.Fact.{Fact, version_by, cited, place_words, in_phase, waits}
use Rattle.lsp_facts.specs.EventFacts.{id_in}
use Rattle.lsp_facts.specs.declared.earlier.Earlier.{Earlier}
use Rattle.lsp_facts.specs.Refuting.{refuting}
use Rattle.lsp_verdict.specs.Offences.{is_within}
use Rattle.lsp_verdict.specs.Spelling.{folded}
use Rattle.json.specs.Print.{quoted}
use Rattle.lsp_types.specs.declared.rules.TheConstants as rules
use Rattle.lsp_session.specs.Entry.{Entry}
use Rattle.lsp_session.specs.Requests.{open_requests}
use Rattle.lsp_origins.specs.Fits.{most_named}
use Rattle.lsp_trail.specs.History.{KeptCall}
use Rattle.lsp_trail.specs.Marking.{next_rank, rank_or, agreed}
use Rattle.lsp_trail.specs.Marking.{waiting_for}
use Rattle.lsp_trail.specs.declared.mark.VersionEvent.{VersionEvent}
use Rattle.lsp_origins.specs.declared.suspects.Until.{Until}
use Rattle.lsp_origins.specs.declared.suspects.Until.TheVariants as until
use Rattle.lsp_origins.specs.OlderEncoding.{older_traced}
use Rattle.lsp_trail.specs.Saves.{saved_unopened}
use Rattle.lsp_trail.specs.LastChange.{SentChange, has_changes}
use Rattle.lsp_trail.specs.declared.openings.Closing.{Closing}
use Rattle.lsp_trail.specs.declared.openings.Closing.TheVariants as closing
use Rattle.lsp_trail.specs.Asking.{answered}
use Rattle.lsp_trail.specs.Spelled.{is_spelled}
use Rattle.lsp_origins.specs.Told.{told_facts}

-- ---- ids that differ in their type alone

-- the number, if it is written so
abbrev pub if_same : ℤ → List ℕ → Option ℤ
if_same z s = then_some (bytes_eq (signed_decimal z) s) z

-- the integer of 32 bits that is written so
abbrev pub written : List ℕ → Option ℤ
written s = option_and_then small (if_same (signed_digits_value 10 s) s)

-- **the id of the other type that is written in the same way**, if there is one
abbrev pub twin : Ident → Option Ident
twin (ident.number z) = Some (ident.text (signed_decimal z))
twin (ident.text s) = option_map ident.number (written s)

-- ---- which messages can have made texts differ: those that set a version after the one that was
-- found equal, up to the one that differs

-- by which message the text came about that differs, where a call has this place: the last one that
-- set a version, the one that set the version of a snapshot, or the call itself
abbrev pub until_of : EventPlace → Call → Until
until_of p (opens uri number text) = until.Message p number
until_of p (changes enc kind uri number edits) = until.Message p number
until_of p (shows uri number text) = until.Version number
until_of p _ = until.Held

-- the rank of the version that was found equal; 0 where none was
abbrev pub equal_rank : Option VersionEvent → ℕ
equal_rank None = 0
equal_rank (Some shown) = shown.rank

-- it set the equal version, or one before it
abbrev pub is_cleared : ℕ → VersionEvent → Bool
is_cleared rank setter = not (nat_lt rank setter.rank)

abbrev pub is_up_to : Until → VersionEvent → Bool
is_up_to (until.Version number) setter = not (int_lt number setter.version)
is_up_to _ setter = true

abbrev pub after_equal : ℕ → List VersionEvent → List VersionEvent
after_equal rank done = drop (prefix_len (is_cleared rank) done) done

abbrev pub up_to : Until → List VersionEvent → List VersionEvent
up_to limit done = take (prefix_len (is_up_to limit) done) done

-- the last of these messages that are suspects, where the version of this rank was equal
abbrev pub suspected : ℕ → Until → List VersionEvent → List VersionEvent
suspected rank limit done = last_ones most_named (up_to limit (after_equal rank done))

-- the rank of the version that differs, of which the last suspect is the last of these or the call
abbrev pub rank_at : ℕ → Until → List VersionEvent → ℕ
rank_at rank (until.Message p number) named = next_rank (rank_or rank named)
rank_at rank limit named = rank_or rank named

-- how many there are, also those that are not named
abbrev pub suspect_count : ℕ → Until → List VersionEvent → ℕ
suspect_count rank limit named = rank_at rank limit named - rank

abbrev pub named_facts : List VersionEvent → List Fact
named_facts named = map (λ (s : VersionEvent). version_by (codes "suspect") s.version s.place) named

-- the call itself
abbrev pub own_facts : Until → List Fact
own_facts (until.Message p number) = version_by (codes "suspect") number p ∷ []
own_facts limit = []

-- **the messages that can have made the texts differ**: how many, and each of those that are named
abbrev pub suspect_facts : Option VersionEvent → Until → List VersionEvent → List Fact
suspect_facts equal limit done =
    let named = suspected (equal_rank equal) limit done in
    line (codes "suspects" ∷ decimal (suspect_count (equal_rank equal) limit named) ∷ [])
    ∷ (named_facts named ++ own_facts limit)

-- ---- open documents of which the URI differs in its spelling

abbrev pub similar_fact : Terms → List Event → ℕ → List ℕ → OnDocument → List Fact
similar_fact terms before size spelling on =
    if is_spelled size spelling on.uri && is_standing terms before on
    then line (codes "similar" ∷ quoted on.uri ∷ place_words on.place) ∷ [] else []

-- **the open documents of which the URI differs from this one in its spelling alone**, of those
-- that were opened last
abbrev pub similar_facts : Terms → List Event → List ℕ → List Fact
similar_facts terms before uri =
    flat_map (similar_fact terms before (length uri) (folded uri)) (last_openings terms before)

-- ---- 602

abbrev pub closing_facts : Closing → List Fact
closing_facts (closing.Last p) = cited (codes "closed") p ∷ []
closing_facts closing.Never = line (codes "opened" ∷ codes "never" ∷ []) ∷ []
closing_facts closing.Forgotten = []

-- the event of this place comes after the closing, if one is known
abbrev pub is_since : Closing → EventPlace → Bool
is_since (closing.Last closed) p = nat_lt closed.event p.event
is_since _ p = true

abbrev pub save_facts : Closing → EventPlace → List Fact
save_facts closed p = if is_since closed p then cited (codes "saved-as") p ∷ [] else []

-- the message that saved the document last while it was not open, if none closed it since
abbrev pub saved_facts : Closing → Option EventPlace → List Fact
saved_facts closed None = []
saved_facts closed (Some p) = save_facts closed p

-- how the document of this URI was closed, and saved since
abbrev pub left_facts : Terms → List Event → List ℕ → List Fact
left_facts terms before uri =
    let closed = closing_of uri (closings terms before) in
    closing_facts closed ++ saved_facts closed (saved_unopened terms before uri)

-- **what is said about the document of this URI, where a call on it breaks this rule**
abbrev pub unopened_traced : Terms → List Event → ℕ → List ℕ → List Fact
unopened_traced terms before rule uri =
    if rule == rules.DOCUMENT_NOT_OPEN
    then left_facts terms before uri ++ similar_facts terms before uri
    else []

-- ---- 603

-- it set a lesser version
abbrev pub is_below : ℤ → VersionEvent → Bool
is_below number setter = int_lt setter.version number

-- the event of this place, where it is the last one that changed a document, and has the same
-- changes
abbrev pub same_facts : EventPlace → List Edit → Option SentChange → List Fact
same_facts p edits last = if has_changes p edits last then cited (codes "same") p ∷ [] else []

-- the one version is that right after the other
abbrev pub is_next : ℤ → ℤ → Bool
is_next number other = int_gap number other == 1

-- the version is the only one between those that these messages set
abbrev pub is_between : Option VersionEvent → ℤ → VersionEvent → Bool
is_between None number later = false
is_between (Some earlier) number later =
    is_next earlier.version number && is_next number later.version

-- the message that set the version right after this one, where the other set the one right before
abbrev pub precedes_facts : ℤ → Option VersionEvent → VersionEvent → List Fact
precedes_facts number earlier setter =
    if is_between earlier number setter
    then version_by (codes "precedes") setter.version setter.place ∷ [] else []

-- the first of the messages that set this version or a greater one, after the last that set a
-- lesser one
abbrev pub setter_facts : ℤ → List Edit → Option SentChange → Option VersionEvent
    → Option VersionEvent → List Fact
setter_facts number edits last earlier None = []
setter_facts number edits last earlier (Some setter) =
    if is_set_to number setter then same_facts setter.place edits last
    else precedes_facts number earlier setter

abbrev pub unrisen_facts : ℤ → List Edit → Option SentChange → List VersionEvent → List Fact
unrisen_facts number edits last done =
    let below = prefix_len (is_below number) done in
    setter_facts number edits last (last_setter (take below done))
    (slice_get (drop below done) 0)

-- of a call that changes a document
abbrev pub change_traced : Terms → List Event → Call → List Fact
change_traced terms before (changes enc kind uri number edits) =
    unrisen_facts number edits (last_change terms before) (recent (steps terms uri before))
change_traced terms before _ = []

-- **the message of this opening that set the version of such a call, if it is the last one that
-- changed a document, and has the same changes**; where none set it, the one that set the version
-- right after it, if one set that right before it, too
abbrev pub unrisen_traced : Terms → List Event → ℕ → Call → List Fact
unrisen_traced terms before rule call =
    if rule == rules.VERSION_DOES_NOT_RISE then change_traced terms before call else []

-- ---- what is added to the facts on an offence, read off all events before it

-- an earlier event under this key, where there is one
abbrev pub place_facts : List ℕ → Option EventPlace → List Fact
place_facts key p = option_to_list (option_map (cited key) p)

-- ---- about documents

-- the place of the last of these messages
abbrev pub last_place : List VersionEvent → Option EventPlace
last_place done = option_map (λ (s : VersionEvent). s.place) (last_setter done)

-- the event that set the version that is held of a URI, if there is one
abbrev pub setter_of : Terms → List Event → List ℕ → Option EventPlace
setter_of terms before uri = last_place (recent (steps terms uri before))

-- **what is known of the document of a URI**: also whether a snapshot of it was equal
abbrev pub earlier_of : Terms → List Event → List ℕ → Earlier
earlier_of terms before uri =
    record {
      set_by = setter_of terms before uri;
      was_equal = is_some (agreed (steps terms uri before));
    }

-- the same of the document of which an event speaks, if it speaks of one
abbrev pub earlier_by : Terms → List Event → Option Call → Earlier
earlier_by terms before None = record { set_by = None; was_equal = false }
earlier_by terms before (Some call) = earlier_of terms before (uri_of call)

abbrev pub earlier_at : Terms → List Event → Event → Earlier
earlier_at terms before event = earlier_by terms before (said_at terms before event)

-- the snapshots that differ from the text of a call after these, by their places: of those that
-- wait for its version the ones with another text, or it is one itself, of this place
abbrev pub differing : Terms → List Call → List KeptCall → EventPlace → Call → Until
    → List EventPlace
differing terms before done p call (until.Message own number) =
    refuting terms before call (waiting_for number done)
differing terms before done p call (until.Version number) = p ∷ []
differing terms before done p call until.Held = []

-- the snapshot that was found equal
abbrev pub equal_facts : Option VersionEvent → List Fact
equal_facts equal = option_to_list
    (option_map (λ (s : VersionEvent). version_by (codes "equal") s.version s.place) equal)

-- and the messages that can have made the texts differ, after these steps of a document
abbrev pub apart_facts : List KeptCall → Until → List Fact
apart_facts done limit =
    equal_facts (agreed done) ++ suspect_facts (agreed done) limit (recent done)

-- with what would make of these the text that the editor had
abbrev pub apart_said : Terms → List Event → ℕ → Until → Call → List Fact
apart_said terms before rule limit call =
    apart_facts (steps terms (uri_of call) before) limit
    ++ told_facts terms before rule limit call

-- what brought texts apart, where a call, the event of this place, breaks this rule after these:
-- under 702 the snapshots that differ come first
abbrev pub apart_traced : Terms → List Event → EventPlace → ℕ → Call → List Fact
apart_traced terms before p rule call =
    let done = steps terms (uri_of call) before in
    let limit = until_of p call in
    if rule == rules.SNAPSHOT_DIFFERS
    then map (cited (codes "snapshot"))
    (differing terms (calls (kept_of terms before)) done p call limit)
    ++ apart_said terms before rule limit call
    else (if rule == rules.SAVED_TEXT_DIFFERS then apart_said terms before rule limit call else [])

-- the events that brought such a call, with what is said about a document that is not open, and
-- the encoding that was named in the older way
abbrev pub call_traced : Terms → List Event → EventPlace → ℕ → Call → List Fact
call_traced terms before p rule call =
    apart_traced terms before p rule call ++ unopened_traced terms before rule (uri_of call)
    ++ unrisen_traced terms before rule call ++ older_traced terms before rule

-- those that brought what an event says about a document
abbrev pub said_traced : Terms → List Event → Event → ℕ → List Fact
said_traced terms before event rule =
    unwrap_or (option_map (call_traced terms before (place_of before event) rule)
    (said_at terms before event)) []

-- ---- about messages

-- the side's open request with this id, and the event that asked it, where there is an id
abbrev pub twin_facts : Side → List Numbered → Option Ident → List Fact
twin_facts side said None = []
twin_facts side said (Some own) = option_to_list (option_map
    (λ p. line (codes "open" ∷ id_text own ∷ place_words p)) (asked side own said))

-- 301: the open request whose id differs in its type alone; 302: the event that asked the one that
-- is open; both: the event that answered a request of this id before
abbrev pub id_trace : ℕ → List Numbered → Side → Ident → List Fact
id_trace rule said side id =
    if rule == rules.RESPONSE_TO_NO_OPEN_REQUEST
    then twin_facts (other_side side) said (twin id)
    ++ place_facts (codes "answered") (answered (other_side side) id said)
    else (if rule == rules.ID_ALREADY_OPEN
    then place_facts (codes "asked") (asked side id said) ++ place_facts (codes "answered") (answered side id said)
    else [])

-- 401 to 412
abbrev pub is_on_phase : ℕ → Bool
is_on_phase rule =
    is_within rules.EDITOR_BEFORE_INITIALIZE rules.SERVER_WHILE_INITIALIZE_OPEN rule

-- 401 to 412: the event that led to the phase; 301 and 302: those that have to do with the id
abbrev pub session_trace : ℕ → List Numbered → Side → Option Ident → List Fact
session_trace rule said side id =
    if is_on_phase rule then place_facts (codes "since") (since said)
    else unwrap_or (option_map (id_trace rule said side) id) []

-- **the events that brought one that offends by this rule after these**
abbrev pub traced : Terms → List Event → Event → ℕ → List Fact
traced terms before (fault side number) rule = []
traced terms before (message m) rule =
    if nat_lt rule rules.FIRST_ON_DOCUMENTS
    then session_trace rule (numbered terms before) m.side (id_in m.message)
    else said_traced terms before (message m) rule
traced terms before (snapshot uri number text) rule =
    said_traced terms before (snapshot uri number text) rule

-- **what is said about an event**, where this is known of the events before it, **and after it the
-- events that brought it**
abbrev pub AreTraced : (Earlier → List Fact → Type 0) → Earlier → List Fact → List Fact → Type 0
AreTraced AreSaid earlier brought facts =
    (plain : List Fact) × AreSaid earlier plain × (facts ≡ plain ++ brought)

-- ---- sessions that lack something

-- a request of the editor's that waits, and the event that asked it
abbrev pub waiting_by : List Numbered → Entry → Fact
waiting_by said e = waits e.id e.method (asked Editor e.id said)

-- **the facts on a session that ends after these messages and is not complete**
abbrev pub lack_traced : List Numbered → List Fact
lack_traced said = map (waiting_by said) (open_requests Editor (sents said)) ++ in_phase
    (phase (sents said)) ∷ place_facts (codes "since") (since said)
