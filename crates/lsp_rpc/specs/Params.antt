-- The methods whose params are read, and what is read of them. A shape answers `None` where the
-- value does not have it.
use Rattle.std.specs.Prelude.{◌≡◌, ◌⊎◌, ℕ, ℤ, pos, negsuc, List, [], ◌∷◌, if◌then◌else◌, Option, Some, None, option_map, option_and_then, codes}
use Rattle.std.specs.Str.{bytes_eq}
use Rattle.serde_json.specs.Data.{Data, Items, no_items, item}
use Rattle.serde_json.specs.Find.{as_str, as_array}
use Rattle.lsp_rpc.specs.Shape.{member, unless_null, is_object, as_integer, as_id}
use Rattle.lsp_rpc.specs.Message.{Message, request, notification, response}
use Rattle.lsp_rpc.specs.Act.{Text, Act, Offer, Change, initialize, initialized, shutdown, exit, did_open, did_change, did_close, did_save, cancel, progress, early, register, other}
use Rattle.lsp_rpc.specs.Reading.{BreaksRule, Reads}
use Rattle.lsp_types.specs.declared.rules.TheConstants as rules
use Rattle.lsp_types.specs.declared.side.Side.{Side}
use Rattle.lsp_types.specs.declared.side.Side.TheVariants.{Editor, Server}
use Rattle.lsp_types.specs.declared.position.Position.{Position}
use Rattle.lsp_types.specs.declared.position.Span.{Span}

-- ---- words for shapes

-- the member must be there
abbrev pub required : {X : Type 0} → List ℕ → (Data → Option X) → Data → Option X
required name shape d = option_and_then shape (member name d)

-- the member, where it is neither missing nor null
abbrev pub given : List ℕ → Data → Option Data
given name d = option_and_then unless_null (member name d)

abbrev pub if_given : {X : Type 0} → (Data → Option X) → Option Data → Option (Option X)
if_given shape None = Some None
if_given shape (Some d) = option_map Some (shape d)

-- the member may be omitted
abbrev pub allowed : {X : Type 0} → List ℕ → (Data → Option X) → Data → Option (Option X)
allowed name shape d = if_given shape (given name d)

abbrev pub both : {A B C : Type 0} → (A → B → C) → Option A → Option B → Option C
both make a b = option_and_then (λ x. option_map (make x) b) a

abbrev pub all_three : {A B C D : Type 0} → (A → B → C → D) → Option A → Option B → Option C → Option D
all_three make a b c = option_and_then (λ f. option_map f c) (both make a b)

abbrev pub all_of : {X : Type 0} → (Data → Option X) → Items → Option (List X)
all_of shape no_items = Some []
all_of shape (item d ds) = both (λ x xs. x ∷ xs) (shape d) (all_of shape ds)

-- an array whose items have this shape
abbrev pub array_of : {X : Type 0} → (Data → Option X) → Data → Option (List X)
array_of shape d = option_and_then (all_of shape) (as_array d)

-- ---- the shapes

abbrev pub natural : ℤ → Option ℕ
natural (pos n) = Some n
natural (negsuc n) = None

abbrev pub as_uinteger : Data → Option ℕ
as_uinteger d = option_and_then natural (as_integer d)

abbrev pub uri_at : Data → Option Text
uri_at = required (codes "uri") as_str

abbrev pub version_at : Data → Option ℤ
version_at = required (codes "version") as_integer

abbrev pub text_at : Data → Option Text
text_at = required (codes "text") as_str

-- the encodings that `general` has, and those of `capabilities`
abbrev pub general_encodings : Data → Option (Option (List Text))
general_encodings d = if is_object d then allowed (codes "positionEncodings") (array_of as_str) d else None

abbrev pub flat : {X : Type 0} → Option (Option X) → Option X
flat None = None
flat (Some x) = x

abbrev pub offered_encodings : Data → Option (Option (List Text))
offered_encodings d = if is_object d then option_map flat (allowed (codes "general") general_encodings d) else None

abbrev pub offer_at : Data → Option Offer
offer_at d =
    both (λ encodings token. record { encodings = encodings; token = token })
    (required (codes "capabilities") offered_encodings d)
    (allowed (codes "workDoneToken") as_id d)

abbrev pub position_at : Data → Option Position
position_at d =
    both (λ line column. record { line = line; column = column })
    (required (codes "line") as_uinteger d)
    (required (codes "character") as_uinteger d)

abbrev pub span_at : Data → Option Span
span_at d =
    both (λ first second. record { first = first; second = second })
    (required (codes "start") position_at d)
    (required (codes "end") position_at d)

-- no other value is refused, since nothing judges the length
abbrev pub range_length_at : Data → Option ℤ
range_length_at = required (codes "rangeLength") as_integer

abbrev pub change_at : Data → Option Change
change_at d =
    both (λ span text. record { span = span; range_length = range_length_at d; text = text })
    (allowed (codes "range") span_at d)
    (text_at d)

abbrev pub did_open_at : Data → Option Act
did_open_at = required (codes "textDocument") (λ document.
    all_three did_open (uri_at document) (version_at document) (text_at document))

abbrev pub did_change_at : Data → Option Act
did_change_at d = required (codes "textDocument") (λ document.
    all_three did_change (uri_at document) (version_at document)
    (required (codes "contentChanges") (array_of change_at) d)) d

abbrev pub did_close_at : Data → Option Act
did_close_at d = option_map did_close (required (codes "textDocument") uri_at d)

abbrev pub did_save_at : Data → Option Act
did_save_at d = both did_save (required (codes "textDocument") uri_at d) (allowed (codes "text") as_str d)

abbrev pub cancel_at : Data → Option Act
cancel_at d = option_map cancel (required (codes "id") as_id d)

abbrev pub progress_at : Data → Option Act
progress_at d = option_map progress (required (codes "token") as_id d)

abbrev pub register_at : Data → Option Act
register_at d =
    option_map register (required (codes "registrations") (array_of (required (codes "method") as_str)) d)

abbrev pub initialize_at : Data → Option Act
initialize_at d = option_map initialize (offer_at d)

-- ---- the methods

-- a method, and what a message of it means by its params
pub record Row : Type 0 where
  pub method : List ℕ
  pub act : Option Data → Option Act

abbrev pub reads : List ℕ → (Data → Option Act) → Row
reads method shape = record { method = method; act = option_and_then shape }

-- a method whose params are not judged
abbrev pub means : List ℕ → Act → Row
means method act = record { method = method; act = λ params. Some act }

abbrev pub editor_requests : List Row
editor_requests =
    reads (codes "initialize") initialize_at
    ∷ means (codes "shutdown") shutdown
    ∷ []

abbrev pub editor_notifications : List Row
editor_notifications =
    means (codes "initialized") initialized
    ∷ means (codes "exit") exit
    ∷ reads (codes "textDocument/didOpen") did_open_at
    ∷ reads (codes "textDocument/didChange") did_change_at
    ∷ reads (codes "textDocument/didClose") did_close_at
    ∷ reads (codes "textDocument/didSave") did_save_at
    ∷ reads (codes "$/cancelRequest") cancel_at
    ∷ []

abbrev pub server_requests : List Row
server_requests =
    means (codes "window/showMessageRequest") early
    ∷ reads (codes "client/registerCapability") register_at
    ∷ []

abbrev pub server_notifications : List Row
server_notifications =
    reads (codes "$/cancelRequest") cancel_at
    ∷ reads (codes "$/progress") progress_at
    ∷ means (codes "window/showMessage") early
    ∷ means (codes "window/logMessage") early
    ∷ means (codes "telemetry/event") early
    ∷ []

-- by the row of the method; a method that has none is plain
abbrev pub act_by : List Row → List ℕ → Option Data → Option Act
act_by [] method params = Some other
act_by (row ∷ rows) method params = if bytes_eq method row.method then row.act params else act_by rows method params

-- the methods of a side's requests, and of its notifications
abbrev pub requests : Side → List Row
requests Editor = editor_requests
requests Server = server_requests

abbrev pub notifications : Side → List Row
notifications Editor = editor_notifications
notifications Server = server_notifications

-- what a message of the side means; `None` where its params do not have the shape
abbrev pub act_at : Side → Message → Option Act
act_at side (request id method params) = act_by (requests side) method params
act_at side (notification method params) = act_by (notifications side) method params
act_at side (response id reply) = Some other

-- the params of the message that the content is don't have the shape that its method asks for
pub record HasBadParams (side : Side) (content : List ℕ) : Type 0 where
  pub of : Message
  pub reads : Reads content of
  pub unread : act_at side of ≡ None

-- the least rule that the content breaks as a message of the side: 201 to 208, then 209
abbrev pub IsRefused : Side → List ℕ → ℕ → Type 0
IsRefused side content rule =
    BreaksRule content rule ⊎ ((rule ≡ rules.BAD_METHOD_PARAMS) × HasBadParams side content)
