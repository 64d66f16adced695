-- What names are shown by: the numbers by which they first come in a log.
use Rattle.std.specs.Prelude.{ℕ, ◌+◌, List, [], ◌∷◌, ◌++◌, map, filter, get_or, Bool, true, false}
use Rattle.std.specs.Prelude.{not, Option, Some, None, codes, decimal, suc, if◌then◌else◌}
use Rattle.std.specs.Fmt.{signed_decimal}
use Rattle.std.specs.List.{list_any, prefix_len}
use Rattle.std.specs.Str.{bytes_eq}
use Rattle.lsp_rpc.specs.Act as act
use Rattle.lsp_replay.specs.Common.{Act, Ident, Offer, Text}
use Rattle.lsp_rpc.specs.Ident as ident
use Rattle.lsp_rpc.specs.Params.{Row, editor_requests, editor_notifications, server_requests}
use Rattle.lsp_rpc.specs.Params.{server_notifications}
use Rattle.lsp_redact.specs.Kept.{Head, request, notification, response, Kept, message, snapshot}
use Rattle.lsp_redact.specs.Kept.{Reply, picks, nothing, failed}
use Rattle.lsp_redact.specs.Shape as shape
use Rattle.lsp_redact.specs.Shape.{Name, known, unknown}

-- ---- numbers

-- names in the order in which they first come, each once
abbrev pub distinct : List Text → List Text
distinct [] = []
distinct (name ∷ names) = name ∷ filter (λ other. not (bytes_eq name other)) (distinct names)

-- **the number of a name among these**, from 1: one more than how many others come before it does
abbrev pub number_of : List Text → Text → ℕ
number_of names name = prefix_len (λ other. not (bytes_eq name other)) (distinct names) + 1

-- ---- names that the rules know

-- the methods whose messages mean something to a session
abbrev pub editor_methods : List Text
editor_methods = map (λ (row : Row). row.method) (editor_requests ++ editor_notifications)

abbrev pub server_methods : List Text
server_methods = map (λ (row : Row). row.method) (server_requests ++ server_notifications)

abbrev pub known_methods : List Text
known_methods = editor_methods ++ server_methods

abbrev pub is_known : Text → Bool
is_known method = list_any (bytes_eq method) known_methods

abbrev pub known_encodings : List Text
known_encodings = codes "utf-8" ∷ codes "utf-16" ∷ codes "utf-32" ∷ []

abbrev pub is_encoding : Text → Bool
is_encoding name = list_any (bytes_eq name) known_encodings

-- ---- the names in what is kept

-- in order, each as often as it comes: URIs, the texts of ids and tokens, and names of methods and
-- of encodings that no rule knows
pub record Names : Type 0 where
  pub uris : List Text
  pub ids : List Text
  pub methods : List Text
  pub encodings : List Text

abbrev pub no_names : Names
no_names = record { uris = []; ids = []; methods = []; encodings = [] }

abbrev pub joined : Names → Names → Names
joined a b = record {
  uris = a.uris ++ b.uris;
  ids = a.ids ++ b.ids;
  methods = a.methods ++ b.methods;
  encodings = a.encodings ++ b.encodings;
}

abbrev pub uri_names : Text → Names
uri_names uri = record no_names { uris = uri ∷ [] }

-- that of a number is the text that writes it
abbrev pub id_names : Ident → Names
id_names (ident.number z) = record no_names { ids = signed_decimal z ∷ [] }
id_names (ident.text t) = record no_names { ids = t ∷ [] }

abbrev pub given_names : Option Ident → Names
given_names None = no_names
given_names (Some id) = id_names id

abbrev pub method_names : List Text → Names
method_names methods = record no_names { methods = filter (λ m. not (is_known m)) methods }

abbrev pub encoding_names : List Text → Names
encoding_names names = record no_names { encodings = filter (λ n. not (is_encoding n)) names }

abbrev pub offered_names : Option (List Text) → Names
offered_names None = no_names
offered_names (Some names) = encoding_names names

abbrev pub offer_names : Offer → Names
offer_names offer = joined (offered_names offer.encodings) (given_names offer.token)

abbrev pub act_names : Act → Names
act_names (act.initialize offer) = offer_names offer
act_names (act.did_open uri number text) = uri_names uri
act_names (act.did_change uri number changes) = uri_names uri
act_names (act.did_close uri) = uri_names uri
act_names (act.did_save uri text) = uri_names uri
act_names (act.cancel id) = id_names id
act_names (act.progress token) = id_names token
act_names (act.register methods) = method_names methods
act_names _ = no_names

abbrev pub reply_names : Reply → Names
reply_names (picks picked) = encoding_names (picked.encoding ∷ [])
reply_names nothing = no_names
reply_names (failed code) = no_names

-- of a call of this method, with this id if it is a request
abbrev pub call_names : Option Ident → Text → Names
call_names id method = joined (given_names id) (method_names (method ∷ []))

abbrev pub head_names : Head → Names
head_names (request id method) = call_names (Some id) method
head_names (notification method) = call_names None method
head_names (response id reply) = joined (given_names id) (reply_names reply)

-- of what a message means; of a response nothing is read but its head
abbrev pub meant_names : Head → Act → Names
meant_names (request id method) act = act_names act
meant_names (notification method) act = act_names act
meant_names (response id reply) act = no_names

abbrev pub message_names : Head → Act → Names
message_names head act = joined (head_names head) (meant_names head act)

abbrev pub names_of : Kept → Names
names_of (message side head act) = message_names head act
names_of (snapshot uri number text) = uri_names uri

abbrev pub names_in : List Kept → Names
names_in [] = no_names
names_in (kept ∷ later) = joined (names_of kept) (names_in later)

-- ---- what is left of them

-- a URI is its number
abbrev pub uri_of : Names → Text → ℕ
uri_of names uri = number_of names.uris uri

-- the place of a name among those that are known, from 0
abbrev pub place_in : List Text → Text → ℕ
place_in [] name = 0
place_in (other ∷ names) name = if bytes_eq name other then 0 else suc (place_in names name)

-- one that the rules know by its place, any other by its number
abbrev pub shown_id : Names → Ident → shape.Id
shown_id names (ident.number z) = shape.as_number (number_of names.ids (signed_decimal z))
shown_id names (ident.text t) = shape.as_text (number_of names.ids t)

abbrev pub name_by : Bool → ℕ → ℕ → Name
name_by true place number = known place
name_by false place number = unknown number

abbrev pub shown_method : Names → Text → Name
shown_method names method = name_by (is_known method) (place_in known_methods method)
    (number_of names.methods method)

abbrev pub shown_encoding : Names → Text → Name
shown_encoding names name = name_by (is_encoding name) (place_in known_encodings name)
    (number_of names.encodings name)

-- ---- what is written of them

-- the name at a place among those that are known
abbrev pub name_at : List Text → ℕ → Text
name_at names place = get_or names place []

abbrev pub written_uri : ℕ → Text
written_uri number = codes "file:///" ++ decimal number

abbrev pub written_method : Name → Text
written_method (known place) = name_at known_methods place
written_method (unknown number) = codes "method/" ++ decimal number

abbrev pub written_encoding : Name → Text
written_encoding (known place) = name_at known_encodings place
written_encoding (unknown number) = codes "encoding-" ++ decimal number
