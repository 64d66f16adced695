-- The texts of messages: none has a float.
use Rattle.std.proofs.Common.{◌≡◌, ℤ, pos, negsuc, Bool, false, true, List, [], ◌∷◌, map, Option, Some, None, refl}
use Rattle.std.specs.Prelude.{◌||◌, codes, option_map}
use Rattle.serde_json.specs.Data.{Data, Members, no_members, object}
use Rattle.serde_json.specs.View.{items_of}
use Rattle.serde_json.specs.Written.{has_float, items_have_float, members_have_float}
use Rattle.lsp_replay.specs.Common.{Span, Text}
use Rattle.lsp_redact.specs.Kept as kept
use Rattle.lsp_redact.specs.Messages.{answered_data, call_members, change_data, encoding_data, id_data}
use Rattle.lsp_redact.specs.Messages.{integer, member_if, members_of, offered_data, params_of}
use Rattle.lsp_redact.specs.Messages.{registration_data, reply_name, span_data, text_data}
use Rattle.lsp_redact.specs.Names.{Names, no_names, written_method}
use Rattle.lsp_redact.specs.Shape.{Change, Head, Id, Name, Params, as_number, as_text, cancel}
use Rattle.lsp_redact.specs.Shape.{did_change, did_close, did_open, did_save, failed, initialize}
use Rattle.lsp_redact.specs.Shape.{nothing, notification, picks, progress, register, request}
use Rattle.lsp_redact.specs.Shape.{response, unread}
use Rattle.lsp_redact.specs.Characters.{written_text}
use Rattle.lsp_redact.specs.Shape as shape
use Rattle.lsp_redact.specs.Shown.{shown_reply}

-- the name of the member that says what is answered is the same for all names
pub same_name : (names : Names) (reply : kept.Reply)
    → reply_name (shown_reply names reply) ≡ reply_name (shown_reply no_names reply)
same_name names (kept.picks picked) = refl
same_name names kept.nothing = refl
same_name names (kept.failed code) = refl

-- ---- no float

none_of : (a b : Bool) → a ≡ false → b ≡ false → (a || b) ≡ false
none_of false b h k = k
none_of true b h k = h

abbrev IsPlain : Data → Type 0
IsPlain d = has_float d ≡ false

abbrev ArePlain : Members → Type 0
ArePlain ms = members_have_float ms ≡ false

abbrev IsPlainIf : Option Data → Type 0
IsPlainIf None = Unit {0}
IsPlainIf (Some d) = IsPlain d

integer_plain : (z : ℤ) → IsPlain (integer z)
integer_plain (pos n) = refl
integer_plain (negsuc n) = refl

id_plain : (id : Id) → IsPlain (id_data id)
id_plain (as_number number) = refl
id_plain (as_text number) = refl

given_plain : (id : Option Id) → IsPlainIf (option_map id_data id)
given_plain None = tt
given_plain (Some id) = id_plain id

-- a member that may be left out
plain_if : (name : List _) (d : Option Data) (ms : Members) → IsPlainIf d → ArePlain ms
    → ArePlain (member_if name d ms)
plain_if name None ms own rest = rest
plain_if name (Some d) ms own rest = none_of (has_float d) (members_have_float ms) own rest

encodings_plain : (ns : List Name) → items_have_float (items_of (map encoding_data ns)) ≡ false
encodings_plain [] = refl
encodings_plain (n ∷ ns) = encodings_plain ns

registrations_plain : (ns : List Name)
    → items_have_float (items_of (map registration_data ns)) ≡ false
registrations_plain [] = refl
registrations_plain (n ∷ ns) = registrations_plain ns

offered_plain : (offered : Option (List Name)) → IsPlain (offered_data offered)
offered_plain None = refl
offered_plain (Some offered) = none_of _ false (none_of _ false (encodings_plain offered) refl) refl

span_plain : (span : Option Span) → IsPlainIf (option_map span_data span)
span_plain None = tt
span_plain (Some span) = refl

length_plain : (length : Option ℤ) → IsPlainIf (option_map integer length)
length_plain None = tt
length_plain (Some length) = integer_plain length

change_plain : (change : Change) → IsPlain (change_data change)
change_plain change =
    plain_if (codes "range") (option_map span_data change.span) _ (span_plain change.span)
    (plain_if (codes "rangeLength") (option_map integer change.range_length) _
    (length_plain change.range_length) refl)

changes_plain : (changes : List Change)
    → items_have_float (items_of (map change_data changes)) ≡ false
changes_plain [] = refl
changes_plain (c ∷ cs) = none_of _ _ (change_plain c) (changes_plain cs)

saved_plain : (text : Option shape.Text)
    → IsPlainIf (option_map text_data (option_map written_text text))
saved_plain None = tt
saved_plain (Some text) = refl

params_plain : (params : Params) → IsPlainIf (params_of params)
params_plain (initialize offer) =
    none_of _ _ (offered_plain offer.encodings)
    (plain_if (codes "workDoneToken") (option_map id_data offer.token) _
    (given_plain offer.token) refl)
params_plain (did_open uri version text) =
    none_of _ false (none_of _ false (integer_plain version) refl) refl
params_plain (did_change uri version changes) =
    none_of _ _ (changes_plain changes)
    (none_of _ false (none_of _ false (integer_plain version) refl) refl)
params_plain (did_close uri) = refl
params_plain (did_save uri text) = plain_if (codes "text")
    (option_map text_data (option_map written_text text)) _ (saved_plain text) refl
params_plain (cancel id) = none_of _ false (id_plain id) refl
params_plain (progress token) = none_of _ false (id_plain token) refl
params_plain (register methods) = none_of _ false (registrations_plain methods) refl
params_plain unread = tt

call_plain : (id : Option Data) (method : Text) (params : Option Data) → IsPlainIf id
    → IsPlainIf params → ArePlain (call_members id method params)
call_plain id method params own rest =
    plain_if (codes "id") id _ own (plain_if (codes "params") params no_members rest refl)

answered_plain : (id : Option Id) → IsPlain (answered_data id)
answered_plain None = refl
answered_plain (Some id) = id_plain id

-- **a message has none**
pub no_float : (head : Head) (params : Params) → has_float (object (members_of head params)) ≡ false
no_float (request id method) params =
    call_plain (Some (id_data id)) (written_method method) (params_of params) (id_plain id)
    (params_plain params)
no_float (notification method) params =
    call_plain None (written_method method) (params_of params) tt (params_plain params)
no_float (response id (picks picked)) params = none_of _ _ (answered_plain id) refl
no_float (response id nothing) params = none_of _ _ (answered_plain id) refl
no_float (response id (failed code)) params =
    none_of _ _ (none_of _ false (integer_plain code) refl) (none_of _ _ (answered_plain id) refl)
