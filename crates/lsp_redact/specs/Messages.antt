-- What is written of a message: a JSON value of what is left of it, its members in the order of
-- their names. (JSON-RPC 2.0, sections 4 and 5; LSP 3.17.)
use Rattle.std.specs.Prelude.{ℕ, ℤ, List, [], map, Option, Some, None, option_map, codes, decimal}
use Rattle.serde_json.specs.Data.{Data, null, number, string, array, object, unsigned}
use Rattle.serde_json.specs.Data.{Members, no_members, member, put}
use Rattle.serde_json.specs.Find.{of_integer}
use Rattle.serde_json.specs.View.{items_of}
use Rattle.serde_json.specs.Written.{compact_text}
use Rattle.lsp_replay.specs.Common.{Nothing, Position, Span, SyncKind, Text}
use Rattle.lsp_types.specs.declared.change.SyncKind.TheVariants.{Full, Incremental}
use Rattle.lsp_redact.specs.Characters.{written_text}
use Rattle.lsp_redact.specs.Names.{written_encoding, written_method, written_uri}
use Rattle.lsp_redact.specs.Shape as shape
use Rattle.lsp_redact.specs.Shape.{Change, Head, Id, Name, Offer, Params, Picked, Reply, as_number}
use Rattle.lsp_redact.specs.Shape.{as_text, failed, notification, nothing, picks, request, response}

-- ---- words for values

abbrev pub integer : ℤ → Data
integer z = number (of_integer z)

abbrev pub natural : ℕ → Data
natural n = number (unsigned n)

abbrev pub list : List Data → Data
list values = array (items_of values)

-- an object of one member
abbrev pub one : List ℕ → Data → Data
one name value = object (member name value no_members)

-- a member that may be left out, before others
abbrev pub member_if : List ℕ → Option Data → Members → Members
member_if name None members = members
member_if name (Some value) members = member name value members

-- a member that may be left out, put into others
abbrev pub put_if : List ℕ → Option Data → Members → Members
put_if name None members = members
put_if name (Some value) members = put name value members

-- an id as a value
abbrev pub id_data : Id → Data
id_data (as_number k) = natural k
id_data (as_text k) = string (decimal k)

abbrev pub text_data : Text → Data
text_data t = string t

-- ---- the handshake

abbrev pub kind_number : SyncKind → ℕ
kind_number Nothing = 0
kind_number Full = 1
kind_number Incremental = 2

-- the capabilities with these encodings as a value
abbrev pub offered_of : Option Data → Data
offered_of None = object no_members
offered_of (Some names) = one (codes "general") (one (codes "positionEncodings") names)

abbrev pub encoding_data : Name → Data
encoding_data name = text_data (written_encoding name)

abbrev pub offered_data : Option (List Name) → Data
offered_data offered = offered_of (option_map (λ names. list (map encoding_data names)) offered)

-- the params with these capabilities and this token as values
abbrev pub offer_of : Data → Option Data → Data
offer_of capabilities token = object
    (member (codes "capabilities") capabilities
    (member_if (codes "workDoneToken") token no_members))

abbrev pub offer_data : Offer → Data
offer_data offer = offer_of (offered_data offer.encodings) (option_map id_data offer.token)

-- the result with this encoding and the number of a kind
abbrev pub picked_of : Text → ℕ → Data
picked_of encoding kind = one (codes "capabilities") (object
    (member (codes "positionEncoding") (text_data encoding)
    (member (codes "textDocumentSync") (natural kind) no_members)))

abbrev pub picked_data : Picked → Data
picked_data picked = picked_of (written_encoding picked.encoding) (kind_number picked.kind)

abbrev pub registration_of : Text → Data
registration_of method = one (codes "method") (text_data method)

abbrev pub registration_data : Name → Data
registration_data method = registration_of (written_method method)

-- the params with these registrations as a value
abbrev pub registered_of : Data → Data
registered_of registrations = one (codes "registrations") registrations

abbrev pub registered_data : List Name → Data
registered_data methods = registered_of (list (map registration_data methods))

-- ---- documents

abbrev pub position_data : Position → Data
position_data p = object (member (codes "character") (natural p.column)
    (member (codes "line") (natural p.line) no_members))

abbrev pub span_data : Span → Data
span_data span = object (member (codes "end") (position_data span.second)
    (member (codes "start") (position_data span.first) no_members))

-- with this text
abbrev pub change_of : Option Span → Option ℤ → Text → Data
change_of span range_length text = object
    (member_if (codes "range") (option_map span_data span)
    (member_if (codes "rangeLength") (option_map integer range_length)
    (member (codes "text") (text_data text) no_members)))

abbrev pub change_data : Change → Data
change_data change = change_of change.span change.range_length (written_text change.text)

abbrev pub opened_data : Text → ℤ → Text → Data
opened_data uri version text = one (codes "textDocument") (object
    (member (codes "text") (text_data text)
    (member (codes "uri") (text_data uri)
    (member (codes "version") (integer version) no_members))))

-- with these changes as a value
abbrev pub changed_of : Text → ℤ → Data → Data
changed_of uri version changes = object
    (member (codes "contentChanges") changes
    (member (codes "textDocument") (object
    (member (codes "uri") (text_data uri)
    (member (codes "version") (integer version) no_members))) no_members))

abbrev pub changed_data : Text → ℤ → List Change → Data
changed_data uri version changes = changed_of uri version (list (map change_data changes))

abbrev pub identifier_data : Text → Data
identifier_data uri = one (codes "uri") (text_data uri)

abbrev pub closed_data : Text → Data
closed_data uri = one (codes "textDocument") (identifier_data uri)

abbrev pub saved_data : Text → Option Text → Data
saved_data uri text = object
    (member_if (codes "text") (option_map text_data text)
    (member (codes "textDocument") (identifier_data uri) no_members))

-- ---- messages

-- params as a value, where they were read
abbrev pub params_of : Params → Option Data
params_of (shape.initialize offer) = Some (offer_data offer)
params_of (shape.did_open uri version text) =
    Some (opened_data (written_uri uri) version (written_text text))
params_of (shape.did_change uri version changes) =
    Some (changed_data (written_uri uri) version changes)
params_of (shape.did_close uri) = Some (closed_data (written_uri uri))
params_of (shape.did_save uri text) =
    Some (saved_data (written_uri uri) (option_map written_text text))
params_of (shape.cancel id) = Some (one (codes "id") (id_data id))
params_of (shape.progress token) = Some (one (codes "token") (id_data token))
params_of (shape.register methods) = Some (registered_data methods)
params_of shape.unread = None

abbrev pub version_data : Data
version_data = string (codes "2.0")

abbrev pub version_member : Members
version_member = member (codes "jsonrpc") version_data no_members

-- the members of a call of this method with these params, and with this id if it is a request
abbrev pub call_members : Option Data → Text → Option Data → Members
call_members id method params =
    member_if (codes "id") id
    (member (codes "jsonrpc") version_data
    (member (codes "method") (text_data method)
    (member_if (codes "params") params no_members)))

abbrev pub called_members : Option Id → Name → Option Data → Members
called_members id method params =
    call_members (option_map id_data id) (written_method method) params

abbrev pub answered_data : Option Id → Data
answered_data None = null
answered_data (Some id) = id_data id

abbrev pub error_data : ℤ → Data
error_data code = object (member (codes "code") (integer code)
    (member (codes "message") (string []) no_members))

-- the member that says what is answered: its name and its value
abbrev pub reply_name : Reply → Text
reply_name (picks picked) = codes "result"
reply_name nothing = codes "result"
reply_name (failed code) = codes "error"

abbrev pub reply_data : Reply → Data
reply_data (picks picked) = picked_data picked
reply_data nothing = null
reply_data (failed code) = error_data code

-- the members of a response with this id
abbrev pub answer_members : Data → Text → Data → Members
answer_members id name value = put name value (member (codes "id") id version_member)

abbrev pub response_members : Option Id → Reply → Members
response_members id reply = answer_members (answered_data id) (reply_name reply) (reply_data reply)

-- the members of a message with these params
abbrev pub members_of : Head → Params → Members
members_of (request id method) params = called_members (Some id) method (params_of params)
members_of (notification method) params = called_members None method (params_of params)
members_of (response id reply) params = response_members id reply

-- **the content of a message with these params**
abbrev pub content_of : Head → Params → List ℕ
content_of head params = compact_text (object (members_of head params))
