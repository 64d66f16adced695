-- Which requests about documents the server refused for their params.
use Rattle.std.specs.Prelude.{◌≡◌, ℕ, ℤ, negsuc, nat_lt, List, ◌++◌, Bool, true, false}
use Rattle.std.specs.Prelude.{if◌then◌else◌, is_some, Option, Some, None, option_map}
use Rattle.std.specs.Prelude.{option_and_then, codes}
use Rattle.std.specs.Ordering.{int_eq}
use Rattle.json.specs.Print.{quoted}
use Rattle.lsp_trail.specs.Common.{asked, document_in, each_kept, each_of, Editor, error, Event}
use Rattle.lsp_trail.specs.Common.{EventPlace, Ident, last_ones, Message, notification, numbered}
use Rattle.lsp_trail.specs.Common.{on_document, place_of, Reply, request, response, result, rule_at}
use Rattle.lsp_trail.specs.Common.{Sent, sent_of, Server, Side, steps, Terms}
use Rattle.lsp_notes.specs.DocumentNotes.{DocumentNote, document_note, first_notes, notes_view}
use Rattle.lsp_trail.specs.Marking.{opened}
use Rattle.lsp_notes.specs.Requests.{Request, request_at, request_at_place, requests_view}
use Rattle.lsp_notes.specs.declared.refusals.Refusals.{Refusals}

-- ---- requests

-- a message of the editor, the event of this place, if it is a request
abbrev pub request_by : EventPlace → Message → Option Request
request_by p (request id method params) =
    Some (request_at p (option_and_then (document_in Editor) params))
request_by p _ = None

abbrev pub request_of : EventPlace → Side → Message → Option Request
request_of p Editor m = request_by p m
request_of p Server m = None

abbrev pub event_request : EventPlace → List Event → Event → Option Request
event_request p before event =
    option_and_then (λ (m : Sent). request_of p m.side m.message) (sent_of event)

-- **the editor's requests that are kept**, in order
abbrev pub requests : Terms → List Event → List Request
requests terms events = each_kept event_request terms events

-- how many of the last ones are looked at
abbrev pub most_requests : ℕ
most_requests = 1024

abbrev pub last_requests : Terms → List Event → List Request
last_requests terms events = last_ones most_requests (requests terms events)

-- whether a message is a request
abbrev pub is_request : Message → Bool
is_request (request id method params) = true
is_request _ = false

-- ---- answers

-- InvalidParams (JSON-RPC 2.0, section 5.1)
abbrev pub invalid_params : ℤ
invalid_params = negsuc 32601

-- the id of the request that this reply refuses by that code
abbrev pub refused_by : Ident → Reply → Option Ident
refused_by id (error code) = if int_eq code invalid_params then Some id else None
refused_by id (result value) = None

-- that of the request that a message refuses so
abbrev pub refused_id : Message → Option Ident
refused_id (response (Some id) reply) = refused_by id reply
refused_id _ = None

abbrev pub refuses : Side → Message → Option Ident
refuses Server m = refused_id m
refuses Editor m = None

-- the editor's request with this id, which is open after these events
abbrev pub refused_request : Terms → List Event → Ident → Option Request
refused_request terms before id =
    option_and_then (λ p. request_at_place p (last_requests terms before))
    (asked Editor id (numbered terms before))

-- it was opened before the event of this place
abbrev pub is_opened_before : EventPlace → Option EventPlace → Bool
is_opened_before p None = false
is_opened_before p (Some opened) = nat_lt opened.event p.event

-- the document of this URI, if it is open after these events, and was at that of this place
abbrev pub if_open_since : Terms → List Event → EventPlace → List ℕ → Option (List ℕ)
if_open_since terms before p uri =
    if is_opened_before p (opened (steps terms uri before)) then Some uri else None

-- the document that a request names, if that is open from the request on
abbrev pub open_document : Terms → List Event → Request → Option (List ℕ)
open_document terms before r = option_and_then (if_open_since terms before r.place) r.document

-- **the one that the editor's request with this id names**
abbrev pub refused_document : Terms → List Event → Ident → Option (List ℕ)
refused_document terms before id =
    option_and_then (open_document terms before) (refused_request terms before id)

-- ---- their notes

abbrev pub refused_words : List ℕ → List ℕ
refused_words uri = codes "note refused -32602 " ++ quoted uri

-- the note on the event of this place, which refuses a request about this document
abbrev pub note_on : EventPlace → List ℕ → DocumentNote
note_on p uri = document_note (on_document uri p) (refused_words uri)

-- the note on the event of this place, if it refuses the editor's request with this id
abbrev pub refusal_note : Terms → List Event → EventPlace → Option Ident → Option DocumentNote
refusal_note terms before p id =
    option_map (note_on p) (option_and_then (refused_document terms before) id)

-- on a message
abbrev pub refusal_by : Terms → List Event → EventPlace → Sent → Option DocumentNote
refusal_by terms before p m = refusal_note terms before p (refuses m.side m.message)

-- where it is kept
abbrev pub refusal_at : Terms → List Event → Event → Option DocumentNote
refusal_at terms before event =
    if is_some (rule_at terms before event) then None
    else option_and_then (refusal_by terms before (place_of before event)) (sent_of event)

-- **of each document the first answer that refuses a request about it**, where the document is open
-- from the request to the answer
abbrev pub refusals : Terms → List Event → List DocumentNote
refusals terms events = first_notes (each_of (refusal_at terms) events)

-- ---- as they are held

-- **it is what these events leave of it**
pub record AreRefusals (terms : Terms) (r : Refusals) (events : List Event) : Type 0 where
  pub asked_are : requests_view r.asked.items ≡ last_requests terms events
  pub refused_are : notes_view r.refused.items ≡ refusals terms events
