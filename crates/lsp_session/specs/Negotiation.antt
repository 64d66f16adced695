-- What the two sides agree on: the encoding of columns, and how changes are sent.
-- (LSP 3.17, "Initialize Request", "PositionEncodingKind" and "Text Document Synchronization".)
use Rattle.std.specs.Prelude.{ℕ, List, [], ◌∷◌, Bool, false, not, ◌||◌, if◌then◌else◌, Option, Some}
use Rattle.std.specs.Prelude.{None, is_some, option_map, option_and_then, codes}
use Rattle.std.specs.List.{list_any}
use Rattle.std.specs.Option.{option_or}
use Rattle.std.specs.Str.{bytes_eq}
use Rattle.serde_json.specs.Data.{Data}
use Rattle.lsp_rpc.specs.Act.{Text, Act, Offer, Picked, register}
use Rattle.lsp_rpc.specs.Results.{picked_at}
use Rattle.lsp_types.specs.declared.position.Encoding.{Encoding}
use Rattle.lsp_types.specs.declared.position.Encoding.TheVariants.{Utf8, Utf16, Utf32}
use Rattle.lsp_types.specs.declared.side.Side.{Side}
use Rattle.lsp_types.specs.declared.side.Side.TheVariants.{Editor, Server}
use Rattle.lsp_types.specs.declared.change.SyncKind.{SyncKind}
use Rattle.lsp_session.specs.Handshake.{Settled, first_settled, settled_by}
use Rattle.lsp_session.specs.Sent.{Sent}
use Rattle.lsp_session.specs.declared.negotiation.Agreed.{Agreed}
use Rattle.lsp_types.specs.declared.rules.TheConstants as rules

-- the first row that fits
abbrev pub first_row : {X : Type 0} → List (Bool × Option X) → Option X
first_row [] = None
first_row (row ∷ rows) = if row.0 then row.1 else first_row rows

abbrev pub encoding_named : Text → Option Encoding
encoding_named name =
    first_row (
    (bytes_eq name (codes "utf-8"), Some Utf8)
    ∷ (bytes_eq name (codes "utf-16"), Some Utf16)
    ∷ (bytes_eq name (codes "utf-32"), Some Utf32)
    ∷ [])

-- ---- what was agreed

abbrev pub agreed_by : Picked → Option Agreed
agreed_by picked = option_map (λ encoding. record { encoding = encoding; kind = picked.kind })
    (encoding_named picked.encoding)

-- what a result agrees on
abbrev pub agreed_at : Data → Option Agreed
agreed_at value = option_and_then agreed_by (picked_at value)

-- what the first result that answers an `initialize` agrees on
abbrev pub agreed : List Sent → Option Agreed
agreed before = option_and_then (λ settled. agreed_at settled.value) (first_settled before)

abbrev pub encoding : List Sent → Option Encoding
encoding before = option_map (λ a. a.encoding) (agreed before)

abbrev pub sync_kind : List Sent → Option SyncKind
sync_kind before = option_map (λ a. a.kind) (agreed before)

-- ---- the rules

abbrev pub lists : Option (List Text) → Text → Bool
lists None name = false
lists (Some names) name = list_any (bytes_eq name) names

-- `utf-16` counts as offered in every case
abbrev pub offers : Offer → Text → Bool
offers offer name = bytes_eq name (codes "utf-16") || lists offer.encodings name

-- the rule that a result breaks which answers this offer; it picks nothing where it does not have
-- the shape
abbrev pub pick_rule : Offer → Option Picked → Option ℕ
pick_rule offer None = Some rules.BAD_INITIALIZE_RESULT
pick_rule offer (Some picked) =
    first_row (
    (not (offers offer picked.encoding), Some rules.ENCODING_NOT_OFFERED)
    ∷ (not (is_some (encoding_named picked.encoding)), Some rules.ENCODING_OUTSIDE_PROFILE)
    ∷ [])

abbrev pub settled_rule : Option Settled → Option ℕ
settled_rule None = None
settled_rule (Some settled) = pick_rule settled.offer (picked_at settled.value)

abbrev pub synchronisation : List Text
synchronisation = codes "textDocument/didOpen" ∷ codes "textDocument/didChange" ∷ codes
    "textDocument/didClose" ∷ []

abbrev pub is_synchronisation : Text → Bool
is_synchronisation method = list_any (bytes_eq method) synchronisation

abbrev pub registers_synchronisation : Act → Bool
registers_synchronisation (register methods) = list_any is_synchronisation methods
registers_synchronisation _ = false

-- the server registers for opens, changes or closes of documents
abbrev pub register_rule : Side → Act → Option ℕ
register_rule Editor act = None
register_rule Server act = if registers_synchronisation act
    then Some rules.DYNAMIC_REGISTRATION else None

-- the rule of the negotiation that the message breaks
abbrev pub negotiation_rule : List Sent → Sent → Option ℕ
negotiation_rule before m =
    option_or (settled_rule (settled_by before m)) (register_rule m.side m.act)

-- 501 of a result that answers an `initialize`, and the rule given of any other message
abbrev pub shape_rule : Option Settled → Option ℕ → Option ℕ
shape_rule None other = other
shape_rule (Some settled) other = if is_some (picked_at settled.value)
    then None else Some rules.BAD_INITIALIZE_RESULT

-- the same, without 502 and 503, for which the name of the encoding is copied
abbrev pub early_negotiation_rule : List Sent → Sent → Option ℕ
early_negotiation_rule before m = shape_rule (settled_by before m) (register_rule m.side m.act)
