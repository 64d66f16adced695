-- The requests of the editor that are answered by edits.
use Rattle.std.specs.Prelude.{◌||◌, ℕ, List, Bool, if◌then◌else◌, Option, Some, None}
use Rattle.std.specs.Prelude.{option_and_then, option_map, codes}
use Rattle.std.specs.Str.{bytes_eq}
use Rattle.serde_json.specs.Data.{Data}
use Rattle.lsp_trail.specs.Common.{document_in, each_kept, Editor, Event, EventPlace, last_ones}
use Rattle.lsp_trail.specs.Common.{Message, notification, request, response, Sent, sent_of, Server}
use Rattle.lsp_trail.specs.Common.{Side, Terms}
use Rattle.lsp_notes.specs.Requests.{Request, request_at}

-- the answer to a request of this method lists edits of the document that it names (LSP 3.17)
abbrev pub is_formatting : List ℕ → Bool
is_formatting method =
    bytes_eq method (codes "textDocument/formatting")
    || (bytes_eq method (codes "textDocument/rangeFormatting")
    || (bytes_eq method (codes "textDocument/onTypeFormatting")
    || bytes_eq method (codes "textDocument/willSaveWaitUntil")))

-- it is a workspace edit
abbrev pub is_rename : List ℕ → Bool
is_rename method = bytes_eq method (codes "textDocument/rename")

-- the request of a method with these params, by the event of this place, if it is such a one: with
-- the document whose edits answer it, or with none where a workspace edit does
abbrev pub request_with : EventPlace → List ℕ → Option Data → Option Request
request_with p method params =
    if is_rename method then Some (request_at p None)
    else (if is_formatting method
    then option_map (λ uri. request_at p (Some uri)) (option_and_then (document_in Editor) params)
    else None)

abbrev pub request_by : EventPlace → Message → Option Request
request_by p (request id method params) = request_with p method params
request_by p _ = None

abbrev pub request_of : EventPlace → Side → Message → Option Request
request_of p Editor m = request_by p m
request_of p Server m = None

abbrev pub event_request : EventPlace → List Event → Event → Option Request
event_request p before event =
    option_and_then (λ (m : Sent). request_of p m.side m.message) (sent_of event)

-- **those that are kept**, in order
abbrev pub edit_requests : Terms → List Event → List Request
edit_requests terms events = each_kept event_request terms events

-- how many of the last ones are looked at
abbrev pub most_requests : ℕ
most_requests = 64

abbrev pub last_requests : Terms → List Event → List Request
last_requests terms events = last_ones most_requests (edit_requests terms events)
