-- A value has the shape of params or of a result exactly where no member of it is wrong.
use Rattle.std.specs.Prelude.{ℕ, zero, suc, ℤ, Bool, ◌&&◌, is_none, is_some, codes, option_and_then}
use Rattle.std.specs.Prelude.{option_map, if◌then◌else◌, unwrap_or}
use Rattle.std.proofs.Common.{◌≡◌, ◌∙◌, List, [], ◌∷◌, true, false, Option, Some, None, refl}
use Rattle.std.proofs.Common.{sym, ap, subst, true≢false}
use Rattle.std.proofs.lemmas.Option.{none-some}
use Rattle.std.proofs.lemmas.Slice.Eq.{bytes_eq-Decides}
use Rattle.std.specs.Bool.{Decides}
use Rattle.std.specs.List.{list_all}
use Rattle.std.specs.Option.{option_or}
use Rattle.std.specs.Str.{bytes_eq}
use Rattle.serde_json.specs.Data.{Data, null, number, string, array, object}
use Rattle.serde_json.specs.Data.{Items, Members, item, no_items}
use Rattle.serde_json.specs.Find.{as_array, as_str, get_member, unescape, walk}
use Rattle.lsp_replay.specs.Common.{all_of, both, Ident, is_object, notification, Position, request}
use Rattle.lsp_replay.specs.Common.{required, response, Span}
use Rattle.lsp_types.specs.declared.side.Side.TheVariants.{Editor, Server}
use Rattle.lsp_rpc.specs.Act as Act
use Rattle.lsp_rpc.specs.Params as params
use Rattle.lsp_rpc.specs.Params.{allowed, given, all_three, if_given}
use Rattle.lsp_rpc.specs.Params.{array_of, as_uinteger}
use Rattle.lsp_rpc.specs.Results as results
use Rattle.lsp_rpc.specs.Shape.{as_id, as_integer, holds_unless_absent, member, unless_null}
use Rattle.lsp_facts.specs.Members.{BadParamsHaveMember, BadResultHasMember, Part, Pointer, Row}
use Rattle.lsp_facts.specs.Members.{fits, member_fits, row_fits, wrong_by, wrong_in, wrong_item}
use Rattle.lsp_facts.specs.Members.{wrong_row, parts, result_rows}
use Rattle.lsp_facts.specs.Members as wrong
use Rattle.lsp_facts.specs.declared.shapes.Kind.{Kind}
use Rattle.lsp_facts.specs.declared.shapes.Kind.TheVariants as kind
use Rattle.lsp_facts.specs.declared.shapes.Need.TheVariants.{Must, May}

-- ---- words

and : {a b c d : Bool} → a ≡ b → c ≡ d → (a && c) ≡ (b && d)
and {b = b} {c = c} first second = ap (λ x. x && c) first ∙ ap (λ x. b && x) second

map_none : {A B : Type 0} (f : A → B) (a : Option A) → is_none (option_map f a) ≡ is_none a
map_none f None = refl
map_none f (Some x) = refl

or_none : (a b : Option Pointer) → is_none (option_or a b) ≡ (is_none a && is_none b)
or_none None b = refl
or_none (Some p) b = refl

if_none : (b : Bool) (a : Option Pointer) (p : Pointer)
    → is_none (if b then a else Some p) ≡ (b && is_none a)
if_none true a p = refl
if_none false a p = refl

rows_none : (rows : List Row) (d : Data)
    → is_none (wrong_row rows d) ≡ list_all (λ row. row_fits row d) rows
rows_none [] d = refl
rows_none (row ∷ rows) d =
    if_none (row_fits row d) _ _ ∙ ap (λ b. row_fits row d && b) (rows_none rows d)

map_some : {A B : Type 0} (f : A → B) (a : Option A) → is_some (option_map f a) ≡ is_some a
map_some f None = refl
map_some f (Some x) = refl

and_true : (b : Bool) → (b && true) ≡ b
and_true true = refl
and_true false = refl

both_some : {A B C : Type 0} (make : A → B → C) (a : Option A) (b : Option B)
    → (is_some a && (is_some b && true)) ≡ is_some (both make a b)
both_some make None b = refl
both_some make (Some x) None = refl
both_some make (Some x) (Some y) = refl

-- ---- members

-- these are wrong just where the shape is not there
module _ {X : Type 0} (k : Kind) (shape : Data → Option X)
    (same : (d : Data) → fits k d ≡ is_some (shape d)) where
  needs_some : fits k null ≡ false → (v : Option Data)
      → member_fits Must k (option_and_then unless_null v) ≡ is_some (option_and_then shape v)
  needs_some unfit None = refl
  needs_some unfit (Some null) = sym unfit ∙ same null
  needs_some unfit (Some d) = same d

  allows_some : (v : Option Data) → member_fits May k v ≡ is_some (if_given shape v)
  allows_some None = refl
  allows_some (Some d) = same d ∙ sym (map_some Some (shape d))

-- a member of an object that is needed, or allowed
abbrev needs : Kind → Option Data → Bool
needs k v = member_fits Must k (option_and_then unless_null v)

abbrev allows : Kind → Option Data → Bool
allows k v = member_fits May k (option_and_then unless_null v)

-- what a row says of the object that is the member with which its pointer begins
abbrev sub : Option Data → Row → Bool
sub v ([], name, need, k) =
    holds_unless_absent (λ o. member_fits need k (given name o))
    (option_and_then (λ o. if is_object o then Some o else None) v)
sub v (slash ∷ at, name, need, k) =
    holds_unless_absent (λ o. member_fits need k (given name o))
    (option_and_then (λ o. if is_object o then Some o else None) (option_and_then (walk [] at) v))

-- the rows of a part of the table
abbrev rows_of : List Part → ℕ → List Row
rows_of [] n = []
rows_of (part ∷ rest) zero = part.3
rows_of (part ∷ rest) (suc n) = rows_of rest n

last_none : (a : Option Pointer) → is_none (option_or a None) ≡ is_none a
last_none None = refl
last_none (Some p) = refl

-- what the table says of a method is wrong just where its params do not have the shape
abbrev Keeps : {X : Type 0} → List ℕ → (Data → Option X) → Type 0
Keeps {X} method shape =
    (d : Option Data) → is_none (wrong_by parts method d) ≡ is_some (option_and_then shape d)

-- ---- arrays

module _ {X : Type 0} (k : Kind) (rows : List Row) (shape : Data → Option X)
    (same : (d : Data) → is_none (wrong_in k rows d) ≡ is_some (shape d)) where
  items_some : (n : ℕ) (ds : Items)
      → is_none (wrong_item k rows n ds) ≡ is_some (all_of shape ds)
  items_some n no_items = refl
  items_some n (item d ds) =
      or_none _ (wrong_item k rows (suc n) ds)
      ∙ and (map_none _ (wrong_in k rows d) ∙ same d)
      (items_some (suc n) ds ∙ sym (and_true _))
      ∙ both_some (λ x xs. x ∷ xs) (shape d) (all_of shape ds)

  array_some : (v : Option Data)
      → (needs kind.Array v && is_none (wrong_item k rows 0 (unwrap_or (option_and_then as_array v) no_items)))
      ≡ is_some (option_and_then (array_of shape) v)
  array_some (Some (array ds)) = items_some 0 ds
  array_some v = refl

-- ---- the handshake

encoding_some : (d : Data) → is_none (wrong_in kind.Text [] d) ≡ is_some (as_str d)
encoding_some (string s) = refl
encoding_some d = refl

abbrev encodings : Row
encodings = ([], codes "positionEncodings", May, kind.Array)

abbrev names : Option Data → Bool
names v = is_none (wrong_item kind.Text [] 0 (unwrap_or (option_and_then as_array v) no_items))

initialize_some : Keeps (codes "initialize") params.initialize_at
unfolding parts walk unescape
initialize_some (Some (object ms)) =
    let d = object ms in
    or_none _ _
    ∙ and (rows_none (rows_of parts 0) d)
    (or_none _ _ ∙ and (map_none _ _) (last_none _ ∙ rows_none (rows_of parts 2) d
    ∙ ap (λ b. b && true) (allows_some kind.Id as_id (λ v. refl) (given (codes "workDoneToken") d))))
    ∙ in_capabilities (get_member (codes "capabilities") ms) _
    ∙ both_some _ (required (codes "capabilities") params.offered_encodings d)
    (allowed (codes "workDoneToken") as_id d)
    ∙ sym (map_some Act.initialize (params.offer_at d))
  where
    in_encodings : (v : Option Data) (token : Bool)
        → ((allows kind.Array v && true) && (names v && token))
        ≡ (is_some (if_given (array_of as_str) (option_and_then unless_null v)) && token)
    in_encodings (Some (array ds)) token =
        ap (λ b. b && token) (items_some kind.Text [] as_str encoding_some 0 ds
        ∙ sym (map_some Some (all_of as_str ds)))
    in_encodings v token = refl

    in_general : (v : Option Data) (token : Bool)
        → ((allows kind.Object v && (sub v encodings && true))
        && (names (option_and_then (walk [] (codes "positionEncodings")) v) && token))
        ≡ (is_some (if_given params.general_encodings (option_and_then unless_null v)) && token)
    in_general (Some (object ms)) token =
        in_encodings (get_member (codes "positionEncodings") ms) token
        ∙ ap (λ b. b && token) (sym (map_some Some (params.general_encodings (object ms))))
    in_general v token = refl

    in_capabilities : (v : Option Data) (token : Bool)
        → ((needs kind.Object v && (sub v ([], codes "general", May, kind.Object)
        && (sub v (codes "/general", codes "positionEncodings", May, kind.Array) && true)))
        && (names (option_and_then (walk [] (codes "general/positionEncodings")) v) && token))
        ≡ (is_some (option_and_then params.offered_encodings v) && token)
    in_capabilities (Some (object ms)) token =
        in_general (get_member (codes "general") ms) token
        ∙ ap (λ b. b && token) (sym (map_some params.flat
        (allowed (codes "general") params.general_encodings (object ms))))
    in_capabilities v token = refl
initialize_some d = refl

-- ---- documents

abbrev uri : Row
uri = ([], codes "uri", Must, kind.Text)

abbrev version : Row
version = ([], codes "version", Must, kind.Integer)

abbrev text : Row
text = ([], codes "text", Must, kind.Text)

text_some : (v : Option Data) → needs kind.Text v ≡ is_some (option_and_then as_str v)
text_some v = needs_some kind.Text as_str (λ d. refl) refl v

integer_some : (v : Option Data) → needs kind.Integer v ≡ is_some (option_and_then as_integer v)
integer_some v = needs_some kind.Integer as_integer (λ d. refl) refl v

-- a document of this URI and version, and what else there must be
versioned_some : {A B : Type 0} (make : Act.Text → ℤ → A → B) (ms : Members) (there good : Bool)
    (last : Option A) → (there && good) ≡ is_some last
    → ((needs kind.Text (get_member (codes "uri") ms)
    && (needs kind.Integer (get_member (codes "version") ms) && (there && true))) && good)
    ≡ is_some (all_three make (params.uri_at (object ms)) (params.version_at (object ms)) last)
versioned_some make ms there good last same =
    let d = object ms in
    ap (λ b. b && good) (and (text_some (get_member (codes "uri") ms))
    (ap (λ b. b && (there && true)) (integer_some (get_member (codes "version") ms))))
    ∙ joined (params.uri_at d) (params.version_at d) there same
  where
    joined : (a : Option Act.Text) (b : Option ℤ) (there : Bool) → (there && good) ≡ is_some last
        → ((is_some a && (is_some b && (there && true))) && good)
        ≡ is_some (all_three make a b last)
    joined (Some x) (Some y) true same = same ∙ sym (map_some (make x y) last)
    joined (Some x) (Some y) false same = same ∙ sym (map_some (make x y) last)
    joined _ _ there same = refl

did_open_some : Keeps (codes "textDocument/didOpen") params.did_open_at
unfolding parts walk unescape
did_open_some (Some (object ms)) =
    or_none _ None ∙ ap (λ b. b && true) (rows_none (rows_of parts 3) (object ms))
    ∙ in_document (get_member (codes "textDocument") ms)
  where
    in_document : (v : Option Data)
        → ((needs kind.Object v && (sub v uri && (sub v version && (sub v text && true)))) && true)
        ≡ is_some (option_and_then (λ document. all_three Act.did_open (params.uri_at document)
        (params.version_at document) (params.text_at document)) v)
    in_document (Some (object ms)) =
        let v = get_member (codes "text") ms in
        versioned_some Act.did_open ms (needs kind.Text v) true (option_and_then as_str v)
        (and_true (needs kind.Text v) ∙ text_some v)
    in_document v = refl
did_open_some d = refl

regroup : (a b c d : Bool) → (a && (b && (c && d))) ≡ ((a && (b && (c && true))) && d)
regroup true true true d = refl
regroup _ _ _ d = refl

position_some : (v : Option Data)
    → (needs kind.Object v && (sub v ([], codes "line", Must, kind.Uinteger)
    && (sub v ([], codes "character", Must, kind.Uinteger) && true)))
    ≡ is_some (option_and_then params.position_at v)
position_some (Some (object ms)) =
    let d = object ms in
    let uinteger_some = needs_some kind.Uinteger as_uinteger (λ v. refl) refl in
    and (uinteger_some (member (codes "line") d))
    (ap (λ b. b && true) (uinteger_some (member (codes "character") d)))
    ∙ both_some _ (required (codes "line") as_uinteger d) (required (codes "character") as_uinteger d)
position_some v = refl

span_some : {A B C D E : Type 0} (make : Option C → D → E) (pair : A → B → C)
    (a : Option A) (b : Option B) (c : Option D)
    → (is_some a && (is_some b && (is_some c && true)))
    ≡ is_some (both make (option_map Some (both pair a b)) c)
span_some make pair (Some x) (Some y) None = refl
span_some make pair _ _ _ = refl

change_some : (d : Data)
    → is_none (wrong_in kind.Object (rows_of parts 5) d) ≡ is_some (params.change_at d)
unfolding parts walk unescape
change_some (object ms) =
    rows_none (rows_of parts 5) (object ms)
    ∙ in_range _ (get_member (codes "range") ms) (get_member (codes "text") ms)
  where
    in_range : {C : Type 0} (make : Option Span → Act.Text → C) (v w : Option Data)
        → (allows kind.Object v && (sub v ([], codes "start", Must, kind.Object)
        && (sub v (codes "/start", codes "line", Must, kind.Uinteger)
        && (sub v (codes "/start", codes "character", Must, kind.Uinteger)
        && (sub v ([], codes "end", Must, kind.Object)
        && (sub v (codes "/end", codes "line", Must, kind.Uinteger)
        && (sub v (codes "/end", codes "character", Must, kind.Uinteger)
        && (needs kind.Text w && true))))))))
        ≡ is_some (both make (if_given params.span_at (option_and_then unless_null v))
        (option_and_then as_str w))
    in_range make (Some (object ms)) w =
        let d = object ms in
        let pair : Position → Position → Span = λ a b. record { first = a; second = b } in
        regroup (needs kind.Object (member (codes "start") d)) _ _ _
        ∙ and (position_some (get_member (codes "start") ms))
        (regroup (needs kind.Object (member (codes "end") d)) _ _ _
        ∙ and (position_some (get_member (codes "end") ms))
        (ap (λ b. b && true) (text_some w)))
        ∙ span_some make pair (required (codes "start") params.position_at d)
        (required (codes "end") params.position_at d) (option_and_then as_str w)
    in_range make v w =
        ap (λ b. allows kind.Object v && (b && true)) (text_some w)
        ∙ both_some make (if_given params.span_at (option_and_then unless_null v))
        (option_and_then as_str w)
change_some d = refl

did_change_some : Keeps (codes "textDocument/didChange") params.did_change_at
unfolding parts walk unescape
did_change_some (Some (object ms)) =
    or_none _ _
    ∙ and (rows_none (rows_of parts 4) (object ms)) (last_none _ ∙ map_none _ _)
    ∙ in_document (get_member (codes "textDocument") ms) _ _ _
    (array_some kind.Object (rows_of parts 5) params.change_at change_some
    (get_member (codes "contentChanges") ms))
  where
    in_document : (v : Option Data) (there good : Bool) (changes : Option (List Act.Change))
        → (there && good) ≡ is_some changes
        → ((needs kind.Object v && (sub v uri && (sub v version && (there && true)))) && good)
        ≡ is_some (option_and_then (λ document. all_three Act.did_change (params.uri_at document)
        (params.version_at document) changes) v)
    in_document (Some (object ms)) there good changes same =
        versioned_some Act.did_change ms there good changes same
    in_document v there good changes same = refl
did_change_some d = refl

document_some : (v : Option Data) (b : Bool)
    → (needs kind.Object v && (sub v uri && b)) ≡ (is_some (option_and_then params.uri_at v) && b)
document_some (Some (object ms)) b = ap (λ a. a && b) (text_some (get_member (codes "uri") ms))
document_some v b = refl

did_close_some : Keeps (codes "textDocument/didClose") params.did_close_at
unfolding parts walk unescape
did_close_some (Some (object ms)) =
    let v = get_member (codes "textDocument") ms in
    last_none _ ∙ rows_none (rows_of parts 6) (object ms) ∙ document_some v true ∙ and_true _
    ∙ sym (map_some Act.did_close (option_and_then params.uri_at v))
did_close_some d = refl

did_save_some : Keeps (codes "textDocument/didSave") params.did_save_at
unfolding parts walk unescape
did_save_some (Some (object ms)) =
    let d = object ms in
    last_none _ ∙ rows_none (rows_of parts 7) d ∙ document_some (get_member (codes "textDocument") ms) _
    ∙ ap (λ b. is_some (required (codes "textDocument") params.uri_at d) && (b && true))
    (allows_some kind.Text as_str (λ v. refl) (given (codes "text") d))
    ∙ both_some Act.did_save (required (codes "textDocument") params.uri_at d)
    (allowed (codes "text") as_str d)
did_save_some d = refl

-- ---- cancelling, progress and registrations

id_some : {A : Type 0} (name : List ℕ) (make : Ident → A) (ms : Members)
    → is_none (option_or (wrong_in kind.Object (([], name, Must, kind.Id) ∷ []) (object ms)) None)
    ≡ is_some (option_map make (required name as_id (object ms)))
id_some name make ms =
    last_none _ ∙ rows_none (([], name, Must, kind.Id) ∷ []) (object ms) ∙ and_true _
    ∙ needs_some kind.Id as_id (λ d. refl) refl (get_member name ms)
    ∙ sym (map_some make (required name as_id (object ms)))

cancel_some : Keeps (codes "$/cancelRequest") params.cancel_at
unfolding parts
cancel_some (Some (object ms)) = id_some (codes "id") Act.cancel ms
cancel_some d = refl

progress_some : Keeps (codes "$/progress") params.progress_at
unfolding parts
progress_some (Some (object ms)) = id_some (codes "token") Act.progress ms
progress_some d = refl

registration_some : (d : Data) → is_none (wrong_in kind.Object (rows_of parts 11) d)
    ≡ is_some (required (codes "method") as_str d)
unfolding parts
registration_some (object ms) =
    rows_none (rows_of parts 11) (object ms) ∙ and_true _ ∙ text_some (get_member (codes "method") ms)
registration_some d = refl

register_some : Keeps (codes "client/registerCapability") params.register_at
unfolding parts walk unescape
register_some (Some (object ms)) =
    or_none _ _
    ∙ and (rows_none (rows_of parts 10) (object ms) ∙ and_true _) (last_none _ ∙ map_none _ _)
    ∙ array_some kind.Object (rows_of parts 11) (required (codes "method") as_str)
    registration_some (get_member (codes "registrations") ms)
    ∙ sym (map_some Act.register (required (codes "registrations")
    (array_of (required (codes "method") as_str)) (object ms)))
register_some d = refl

-- ---- the result of `initialize`

picked_some : {A B C D E : Type 0} (make : B → D → E) (f : A → B) (g : C → D)
    (a : Option A) (b : Option C)
    → (is_some a && is_some b) ≡ is_some (both make (option_map f a) (option_map g b))
picked_some make f g None b = refl
picked_some make f g (Some x) None = refl
picked_some make f g (Some x) (Some y) = refl

abbrev change : Row
change = ([], codes "change", May, kind.SyncKind)

result_some : (d : Data) → is_none (wrong.wrong_result d) ≡ is_some (results.picked_at d)
unfolding result_rows walk unescape
result_some (object ms) =
    rows_none result_rows (object ms) ∙ in_capabilities (get_member (codes "capabilities") ms)
  where
    in_synchronisation : (v : Option Data)
        → (member_fits May kind.Sync (option_and_then unless_null v)
        && (sub v change && true))
        ≡ is_some (if_given results.sync_at (option_and_then unless_null v))
    in_synchronisation (Some (object ms)) =
        and_true (sub (Some (object ms)) change) ∙ allows_some kind.SyncKind results.kind_at (λ d. refl)
        (given (codes "change") (object ms))
        ∙ sym (map_some results.or_nothing (allowed (codes "change") results.kind_at (object ms)))
        ∙ sym (map_some Some (results.sync_at (object ms)))
    in_synchronisation (Some (number n)) =
        and_true (is_some (results.kind_at (number n)))
        ∙ sym (map_some Some (results.kind_at (number n)))
    in_synchronisation v = refl

    in_capabilities : (v : Option Data)
        → (needs kind.Object v && (sub v ([], codes "positionEncoding", May, kind.Text)
        && (sub v ([], codes "textDocumentSync", May, kind.Sync)
        && (sub v (codes "/textDocumentSync", codes "change", May, kind.SyncKind) && true))))
        ≡ is_some (option_and_then results.picked_in v)
    in_capabilities (Some (object ms)) =
        let d = object ms in
        and (allows_some kind.Text as_str (λ v. refl) (given (codes "positionEncoding") d))
        (in_synchronisation (get_member (codes "textDocumentSync") ms))
        ∙ picked_some _ results.or_utf16 results.or_nothing
        (allowed (codes "positionEncoding") as_str d)
        (allowed (codes "textDocumentSync") results.sync_at d)
    in_capabilities v = refl
result_some d = refl

-- ---- laws

there : (found : Option Pointer) → is_none found ≡ false → (p : Pointer) × (found ≡ Some p)
there None is = absurd (true≢false is)
there (Some p) is = (p, refl)

nothing : {X : Type 0} (a : Option X) → is_some a ≡ false → a ≡ None
nothing None is = refl
nothing (Some x) is = absurd (true≢false is)

-- **A result of another shape has a member that is wrong**, and no other has one.
pub result_has_member : BadResultHasMember
result_has_member d = (
  λ none. there (wrong.wrong_result d) (result_some d ∙ ap is_some none),
  λ (found : (p : Pointer) × (wrong.wrong_result d ≡ Some p)).
      nothing (results.picked_at d) (sym (result_some d) ∙ ap is_none found.1),
)

-- a member of the params of this method
abbrev Found : List ℕ → Option Data → Type 0
Found method d = (p : Pointer) × (wrong_by parts method d ≡ Some p)

module _ (method : List ℕ) (d : Option Data) where
  -- of a method by its row, or a later one
  in_row : (name : List ℕ) (act rest : Option Act.Act)
      → (act ≡ None → Found name d) → (rest ≡ None → Found method d)
      → (if bytes_eq method name then act else rest) ≡ None → Found method d
  in_row name act rest now later none =
      by (bytes_eq method name) (bytes_eq-Decides method name) none
    where
      by : (b : Bool) → Decides b (method ≡ name) → (if b then act else rest) ≡ None
          → Found method d
      by true is none = subst (λ m. Found m d) (sym (is.0 refl)) (now none)
      by false is none = later none

  judged : (name : List ℕ) (shape : Data → Option Act.Act) (rest : Option Act.Act)
      → Keeps name shape → (rest ≡ None → Found method d)
      → (if bytes_eq method name then option_and_then shape d else rest) ≡ None → Found method d
  judged name shape rest same =
      in_row name (option_and_then shape d) rest
      (λ none. there (wrong_by parts name d) (same d ∙ ap is_some none))

  passed : (name : List ℕ) (act : Act.Act) (rest : Option Act.Act) → (rest ≡ None → Found method d)
      → (if bytes_eq method name then Some act else rest) ≡ None → Found method d
  passed name act rest = in_row name (Some act) rest (λ none. absurd (none-some act (sym none)))

  other : Some Act.other ≡ None → Found method d
  other none = absurd (none-some Act.other (sym none))

-- **The params of another shape have a member that is wrong.**
pub params_have_member : BadParamsHaveMember
params_have_member Editor (request id m d) none =
    judged m d (codes "initialize") _ _ initialize_some
    (passed m d (codes "shutdown") _ _ (other m d)) none
params_have_member Server (request id m d) none =
    passed m d (codes "window/showMessageRequest") _ _
    (judged m d (codes "client/registerCapability") _ _ register_some (other m d)) none
params_have_member Editor (notification m d) none =
    passed m d (codes "initialized") _ _ (passed m d (codes "exit") _ _
    (judged m d (codes "textDocument/didOpen") _ _ did_open_some
    (judged m d (codes "textDocument/didChange") _ _ did_change_some
    (judged m d (codes "textDocument/didClose") _ _ did_close_some
    (judged m d (codes "textDocument/didSave") _ _ did_save_some
    (judged m d (codes "$/cancelRequest") _ _ cancel_some (other m d))))))) none
params_have_member Server (notification m d) none =
    judged m d (codes "$/cancelRequest") _ _ cancel_some
    (judged m d (codes "$/progress") _ _ progress_some
    (passed m d (codes "window/showMessage") _ _ (passed m d (codes "window/logMessage") _ _
    (passed m d (codes "telemetry/event") _ _ (other m d))))) none
params_have_member side (response id reply) none = absurd (none-some Act.other (sym none))
