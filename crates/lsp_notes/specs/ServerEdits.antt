-- Which edits and versions of documents the server sends, and the notes on them.
use Rattle.std.specs.Prelude.{◌≡◌, ℕ, ℤ, List, [], ◌∷◌, ◌++◌, map, Bool, if◌then◌else◌}
use Rattle.std.specs.Prelude.{Option, Some, None, is_some, option_and_then, option_map}
use Rattle.std.specs.Prelude.{option_to_list, codes, string_bytes}
use Rattle.std.specs.List.{filter_map, fold}
use Rattle.std.specs.Str.{bytes_eq}
use Rattle.serde_json.specs.Data.{Data}
use Rattle.lsp_trail.specs.Common.{agreed_encoding, asked, Call, calls, changes, each_of, Edit}
use Rattle.lsp_trail.specs.Common.{Editor, edits_of, Encoding, error, Event, EventPlace, Ident}
use Rattle.lsp_trail.specs.Common.{IsTrail, kept_of, last_ones, member, Message, notification}
use Rattle.lsp_trail.specs.Common.{numbered, on_document, place_of, Position, recent, Reply}
use Rattle.lsp_trail.specs.Common.{request, response, result, rule_at, said_at, Sent, sent_of}
use Rattle.lsp_trail.specs.Common.{Server, Side, Stands, steps, Terms, version_named, Versioned}
use Rattle.lsp_docs.specs.Documents.{Held, documents}
use Rattle.lsp_facts.specs.Fact.{position_words}
use Rattle.lsp_notes.specs.DocumentNotes.{DocumentNote, document_note}
use Rattle.lsp_notes.specs.DocumentNotes.{first_notes, notes_view, with_note}
use Rattle.lsp_notes.specs.EditRequests.{last_requests}
use Rattle.lsp_notes.specs.Requests.{Request, request_at_place, requests_view}
use Rattle.lsp_notes.specs.LateEdits.{HoldsLate, LateAnswer, if_late, lates_view, most_late}
use Rattle.lsp_notes.specs.LateEdits.{words_since}
use Rattle.lsp_notes.specs.TextEdits.{DocumentEdits, edits_for, text_edits_at}
use Rattle.lsp_notes.specs.TextsSince.{first_outside, overlap_each, texts_since}
use Rattle.lsp_notes.specs.Unsent.{is_unsent, unsent_words}
use Rattle.lsp_notes.specs.declared.edited.Edited as code
use Rattle.lsp_notes.specs.declared.edited.Now.{Now}
use Rattle.lsp_notes.specs.declared.server_edits.ServerEdits.{ServerEdits}

-- ---- what a message has for documents

-- a document, the event since which its texts count, and what a message has for it: a version, and
-- edits that are looked at
pub record Edited : Type 0 where
  pub uri : List ℕ
  pub since : EventPlace
  pub version : Option ℤ
  pub edits : Option (List Edit)

abbrev pub edited : List ℕ → EventPlace → Option ℤ → Option (List Edit) → Edited
edited uri since version edits =
    record { uri = uri; since = since; version = version; edits = edits }

abbrev pub edited_for : EventPlace → Data → List ℕ → Option Edited
edited_for since d uri =
    option_map (λ (w : DocumentEdits). edited uri since w.version w.edits) (edits_for uri d)

-- a workspace edit, where documents of these URIs are open
abbrev pub edited_in : List (List ℕ) → EventPlace → Data → List Edited
edited_in uris since d = filter_map (edited_for since d) uris

-- the result of a request: edits of the document that it names, or a workspace edit
abbrev pub edited_by : List (List ℕ) → EventPlace → Option (List ℕ) → Data → List Edited
edited_by uris since (Some uri) d = edited uri since None (text_edits_at d) ∷ []
edited_by uris since None d = edited_in uris since d

abbrev pub in_reply : List (List ℕ) → Request → Reply → List Edited
in_reply uris r (result d) = edited_by uris r.place r.document d
in_reply uris r (error code) = []

-- the answer to this request, if it is one
abbrev pub in_answer : List (List ℕ) → Option Request → Reply → List Edited
in_answer uris None reply = []
in_answer uris (Some r) reply = in_reply uris r reply

-- the same of a message that may be no answer
abbrev pub result_in : Message → Option Data
result_in (response id (result d)) = Some d
result_in _ = None

abbrev pub in_whole : List (List ℕ) → Option Request → Message → List Edited
in_whole uris r (response id reply) = in_answer uris r reply
in_whole uris r _ = []

-- a request of the server that has edits made
abbrev pub is_apply_edit : List ℕ → Bool
is_apply_edit method = bytes_eq method (codes "workspace/applyEdit")

-- the edit among the params of a request
abbrev pub edit_in : Message → Option Data
edit_in (request id method params) = option_and_then (member (codes "edit")) params
edit_in _ = None

abbrev pub in_edit : List (List ℕ) → EventPlace → Option Data → List Edited
in_edit uris p None = []
in_edit uris p (Some d) = edited_in uris p d

abbrev pub in_request : List (List ℕ) → EventPlace → List ℕ → Option Data → List Edited
in_request uris p method params =
    if is_apply_edit method then in_edit uris p (option_and_then (member (codes "edit")) params)
    else []

-- diagnostics may have a version
abbrev pub diagnosed_as : EventPlace → Versioned → Option Edited
diagnosed_as p v = option_map (λ n. edited v.uri p (Some n) None) v.number

abbrev pub in_diagnostics : EventPlace → Option Versioned → List Edited
in_diagnostics p named = option_to_list (option_and_then (diagnosed_as p) named)

-- ---- which messages

-- the editor's request with this id, which is open after these events, if edits answer it
abbrev pub answered_request : Terms → List Event → Ident → Option Request
answered_request terms before id =
    option_and_then (λ p. request_at_place p (last_requests terms before))
    (asked Editor id (numbered terms before))

abbrev pub answered : Terms → List Event → Option Ident → Option Request
answered terms before id = option_and_then (answered_request terms before) id

-- of the server's, the event of this place, where documents of these URIs are open
abbrev pub edited_in_message : Terms → List Event → List (List ℕ) → EventPlace → Message
    → List Edited
edited_in_message terms before uris p (request id method params) = in_request uris p method params
edited_in_message terms before uris p (notification method params) =
    in_diagnostics p (version_named Server (notification method params))
edited_in_message terms before uris p (response id reply) =
    in_answer uris (answered terms before id) reply

abbrev pub edited_by_side : Terms → List Event → List (List ℕ) → EventPlace → Side → Message
    → List Edited
edited_by_side terms before uris p Editor m = []
edited_by_side terms before uris p Server m = edited_in_message terms before uris p m

-- ---- at an event, which is kept

-- the events with this one, of which those that offend are left out
abbrev pub kept_with : Terms → List Event → Event → List Event
kept_with terms before event = kept_of terms (before ++ event ∷ [])

abbrev pub calls_with : Terms → List Event → Event → List Call
calls_with terms before event = calls (kept_with terms before event)

-- the documents that are open after calls
abbrev pub open_uris : Terms → List Call → List (List ℕ)
open_uris terms made = map (λ (h : Held). h.uri) (documents terms made)

abbrev pub uris_with : Terms → List Event → Event → List (List ℕ)
uris_with terms before event = open_uris terms (calls_with terms before event)

abbrev pub encoding_with : Terms → List Event → Event → Encoding
encoding_with terms before event = agreed_encoding (kept_with terms before event)

abbrev pub edited_at_place : Terms → List Event → Event → EventPlace → Option Sent → List Edited
edited_at_place terms before event p None = []
edited_at_place terms before event p (Some m) =
    edited_by_side terms before (uris_with terms before event) p m.side m.message

-- **what it has for documents**
abbrev pub edited_at : Terms → List Event → Event → List Edited
edited_at terms before event =
    if is_some (rule_at terms before event) then []
    else edited_at_place terms before event (place_of before event) (sent_of event)

-- ---- the notes on it

abbrev pub texts_of : Terms → List Event → Event → Edited → Option (List (List ℕ))
texts_of terms before event e =
    texts_since terms e.uri (calls_with terms before event)
    (recent (steps terms e.uri before)) e.since

-- edits, and the texts in which each is looked at
pub record Sight : Type 0 where
  pub texts : List (List ℕ)
  pub edits : List Edit

abbrev pub sight : List (List ℕ) → List Edit → Sight
sight texts edits = record { texts = texts; edits = edits }

abbrev pub sight_of : Terms → List Event → Event → Edited → Option Sight
sight_of terms before event e =
    option_and_then (λ edits. option_map (λ texts. sight texts edits)
    (texts_of terms before event e)) e.edits

abbrev pub note_on : Edited → EventPlace → List ℕ → DocumentNote
note_on e p words = document_note (on_document e.uri p) words

abbrev pub outside_words : Position → List ℕ
outside_words position = codes "note outside" ++ position_words position

-- a position is outside in each text
abbrev pub outside_in : Encoding → Sight → Option (List ℕ)
outside_in enc s = option_map outside_words (first_outside enc s.texts s.edits)

-- edits overlap in each text
abbrev pub overlap_in : Encoding → Sight → Option (List ℕ)
overlap_in enc s =
    if overlap_each enc s.texts s.edits then Some (codes "note overlap") else None

abbrev pub outside_note : Terms → List Event → Event → EventPlace → Edited → Option DocumentNote
outside_note terms before event p e =
    option_map (note_on e p) (option_and_then (outside_in (encoding_with terms before event))
    (sight_of terms before event e))

abbrev pub overlap_note : Terms → List Event → Event → EventPlace → Edited → Option DocumentNote
overlap_note terms before event p e =
    option_map (note_on e p) (option_and_then (overlap_in (encoding_with terms before event))
    (sight_of terms before event e))

-- its version was set by no message
abbrev pub if_unsent : Terms → List Event → List ℕ → ℤ → Option (List ℕ)
if_unsent terms before uri number =
    if is_unsent terms before uri number then Some (unsent_words number) else None

abbrev pub unsent_note : Terms → List Event → Event → EventPlace → Edited → Option DocumentNote
unsent_note terms before event p e =
    option_map (note_on e p) (option_and_then (if_unsent terms before e.uri) e.version)

-- it answers a request since which the text changed
abbrev pub late_in : Edited → EventPlace → Sight → Option LateAnswer
late_in e p s = if_late e.uri e.since p s.texts s.edits

abbrev pub late_answer_at : Terms → List Event → Event → EventPlace → Edited → Option LateAnswer
late_answer_at terms before event p e =
    option_and_then (late_in e p) (sight_of terms before event e)

-- ---- at all events

-- what `f` gives of each, where each is taken with those before it
abbrev pub flat_from : {A X : Type 0} → (List A → A → List X) → List A → List A → List X
flat_from f before [] = []
flat_from f before (x ∷ after) = f before x ++ flat_from f (before ++ x ∷ []) after

abbrev pub flat_of : {A X : Type 0} → (List A → A → List X) → List A → List X
flat_of f xs = flat_from f [] xs

abbrev pub noted_at : {X : Type 0}
    → (Terms → List Event → Event → EventPlace → Edited → Option X) → Terms → List Event → Event
    → List X
noted_at f terms before event =
    filter_map (f terms before event (place_of before event)) (edited_at terms before event)

abbrev pub all_noted : {X : Type 0}
    → (Terms → List Event → Event → EventPlace → Edited → Option X) → Terms → List Event → List X
all_noted f terms events = flat_of (noted_at f terms) events

-- **of each document the first edits with a position outside of each of its texts**
abbrev pub outsides : Terms → List Event → List DocumentNote
outsides terms events = first_notes (all_noted outside_note terms events)

-- **those that overlap in each of its texts**
abbrev pub overlaps : Terms → List Event → List DocumentNote
overlaps terms events = first_notes (all_noted overlap_note terms events)

-- **the first version that no message had set**
abbrev pub unsents : Terms → List Event → List DocumentNote
unsents terms events = first_notes (all_noted unsent_note terms events)

abbrev pub last_answers : Terms → List Event → List LateAnswer
last_answers terms events = last_ones most_late (all_noted late_answer_at terms events)

-- a call that changes its document, by the event of this place: edits were made late by it
abbrev pub late_by : Terms → List Event → List Call → EventPlace → Call → Option DocumentNote
late_by terms before made p (changes enc kind uri number cs) =
    option_map (document_note (on_document uri p))
    (words_since terms made uri enc (recent (steps terms uri before)) (last_answers terms before))
late_by terms before made p _ = None

abbrev pub late_at : Terms → List Event → Event → Option DocumentNote
late_at terms before event =
    if is_some (rule_at terms before event) then None
    else option_and_then (late_by terms before (calls_with terms before event)
    (place_of before event)) (said_at terms before event)

-- **the first change that makes edits late**
abbrev pub lates : Terms → List Event → List DocumentNote
lates terms events = first_notes (each_of (late_at terms) events)

-- ---- as they are held

abbrev pub edited_view : code.Edited → Edited
edited_view e =
    edited (string_bytes e.uri) e.since e.version (option_map (λ v. edits_of v.items) e.edits)

-- **this is known at an event after these**
pub record IsNow (terms : Terms) (before : List Event) (event : Event) (n : Now) : Type 0 where
  pub by : n.docs.now.terms ≡ terms
  pub stands : Stands n.docs.now (calls_with terms before event)
  pub trail : IsTrail terms n.trail.now before
  pub encoding : n.encoding ≡ encoding_with terms before event
  pub place : n.place ≡ place_of before event

-- these more notes
abbrev pub with_notes : List DocumentNote → List DocumentNote → List DocumentNote
with_notes notes more = fold (λ ns n. with_note ns (Some n)) notes more

-- what these leave, which a message has for documents
pub record NotesBy (terms : Terms) (before : List Event) (event : Event) (es : List Edited)
    (old new : ServerEdits) : Type 0 where
  pub asked : new.asked ≡ old.asked
  pub late_more : HoldsLate (filter_map (late_answer_at terms before event (place_of before event))
      es) old.late.items new.late.items
  pub late_edits : new.late_edits ≡ old.late_edits
  pub outside_more : notes_view new.outside.items ≡ with_notes (notes_view old.outside.items)
      (filter_map (outside_note terms before event (place_of before event)) es)
  pub overlaps_more : notes_view new.overlaps.items ≡ with_notes (notes_view old.overlaps.items)
      (filter_map (overlap_note terms before event (place_of before event)) es)
  pub unsent_more : notes_view new.unsent.items ≡ with_notes (notes_view old.unsent.items)
      (filter_map (unsent_note terms before event (place_of before event)) es)

-- **it is what these events leave of it**
pub record AreServerEdits (terms : Terms) (s : ServerEdits) (events : List Event) : Type 0 where
  pub asked_are : requests_view s.asked.items ≡ last_requests terms events
  pub late_are : lates_view s.late.items ≡ last_answers terms events
  pub late_edits_are : notes_view s.late_edits.items ≡ lates terms events
  pub outside_are : notes_view s.outside.items ≡ outsides terms events
  pub overlaps_are : notes_view s.overlaps.items ≡ overlaps terms events
  pub unsent_are : notes_view s.unsent.items ≡ unsents terms events
