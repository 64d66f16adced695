-- Which member of the params of a message, or of the result of `initialize`, does not have the
-- shape that it must have: the first one of the tables, as a JSON pointer (RFC 6901) from there.
use Rattle.std.specs.Prelude.{◌≡◌, ℕ, suc, List, [], ◌∷◌, ◌++◌, Bool, true, false, ◌||◌}
use Rattle.std.specs.Prelude.{if◌then◌else◌, decimal, map, Option, Some, None, IfOk, Result, String}
use Rattle.std.specs.Prelude.{is_some, option_map, option_and_then, string_bytes, unwrap_or, ◌↔◌}
use Rattle.std.specs.Borrow.{Bor}
use Rattle.std.specs.Option.{option_or}
use Rattle.std.specs.Str.{bytes_eq}
use Rattle.std.specs.declared.alloc.Global.{Global}
use Rattle.serde_json.specs.Data.{Data, Items, no_items, item}
use Rattle.serde_json.specs.Find.{as_array, pointer}
use Rattle.lsp_types.specs.declared.memory.Memory.{Memory}
use Rattle.lsp_types.specs.declared.side.Side.{Side}
use Rattle.lsp_rpc.specs.Message.{Message, request, notification, response}
use Rattle.lsp_rpc.specs.Params.{as_uinteger, given, act_at}
use Rattle.lsp_rpc.specs.Results.{kind_at, picked_at}
use Rattle.lsp_rpc.specs.Shape.{as_integer, holds_unless_absent, is_id, is_object, is_string}
use Rattle.lsp_facts.specs.declared.shapes.Kind.{Kind}
use Rattle.lsp_facts.specs.declared.shapes.Kind.TheVariants as kind
use Rattle.lsp_facts.specs.declared.shapes.Need.{Need}
use Rattle.lsp_facts.specs.declared.shapes.Need.TheVariants.{Must, May}
use Rattle.lsp_facts.specs.declared.shapes.TheConstants.{PARAMS, RESULT}

abbrev pub Pointer : Type 0
Pointer = List ℕ

abbrev pub pointer_view : Option (String Global) → Option Pointer
pointer_view found = option_map string_bytes found

-- what is found is what is wrong, unless memory was refused
abbrev pub Finds : Result (Option (String Global)) Memory → Option Pointer → Type 0
Finds result wrong = IfOk result (λ found. pointer_view found ≡ wrong)

-- ---- values

abbrev pub fits : Kind → Data → Bool
fits kind.Text d = is_string d
fits kind.Integer d = is_some (as_integer d)
fits kind.Uinteger d = is_some (as_uinteger d)
fits kind.Id d = is_id d
fits kind.SyncKind d = is_some (kind_at d)
fits kind.Sync d = is_object d || is_some (kind_at d)
fits kind.Array d = is_some (as_array d)
fits kind.Object d = is_object d

abbrev pub object_at : Pointer → Data → Option Data
object_at at d = option_and_then (λ o. if is_object o then Some o else None) (pointer at d)

abbrev pub items_at : Pointer → Data → Items
items_at at d = unwrap_or (option_and_then as_array (pointer at d)) no_items

-- ---- members

-- where the object is that it is in, its name, whether it must be there, and what it must be
abbrev pub Row : Type 0
Row = Pointer × List ℕ × Need × Kind

abbrev pub row_view : Bor (List ℕ) × Bor (List ℕ) × Need × Kind → Row
row_view row = (row.0.now, row.1.now, row.2, row.3)

abbrev pub member_fits : Need → Kind → Option Data → Bool
member_fits Must k None = false
member_fits May k None = true
member_fits need k (Some d) = fits k d

-- whether a value has a member as it must be
abbrev pub row_fits : Row → Data → Bool
row_fits (at, name, need, k) d =
    holds_unless_absent (λ o. member_fits need k (given name o)) (object_at at d)

-- the first member that is wrong
abbrev pub wrong_row : List Row → Data → Option Pointer
wrong_row [] d = None
wrong_row (row ∷ rows) d =
    if row_fits row d then wrong_row rows d else Some (row.0 ++ 47 ∷ row.1)

-- the value itself, unless it is of this kind, or the first of its members that is wrong
abbrev pub wrong_in : Kind → List Row → Data → Option Pointer
wrong_in k rows d = if fits k d then wrong_row rows d else Some []

-- the first item that is wrong, the numbers beginning here
abbrev pub wrong_item : Kind → List Row → ℕ → Items → Option Pointer
wrong_item k rows n no_items = None
wrong_item k rows n (item d ds) =
    option_or (option_map (λ rest. 47 ∷ decimal n ++ rest) (wrong_in k rows d))
    (wrong_item k rows (suc n) ds)

-- ---- params

-- the method, the array whose items are meant, what these or the params must be, their members
abbrev pub Part : Type 0
Part = List ℕ × Option Pointer × Kind × List Row

abbrev pub part_view : Bor (List ℕ) × Option (Bor (List ℕ)) × Kind
    × Bor (List (Bor (List ℕ) × Bor (List ℕ) × Need × Kind)) → Part
part_view part = (part.0.now, option_map (λ at. at.now) part.1, part.2, map row_view part.3.now)

-- of the params, or of the items of an array in them; of params that are missing, themselves
abbrev pub wrong_among : Option Pointer → Kind → List Row → Option Data → Option Pointer
wrong_among array k rows None = Some []
wrong_among None k rows (Some d) = wrong_in k rows d
wrong_among (Some array) k rows (Some d) =
    option_map (λ rest. array ++ rest) (wrong_item k rows 0 (items_at array d))

-- what is wrong by a part, if it is one of the method
abbrev pub wrong_part : List ℕ → Option Data → Part → Option Pointer
wrong_part method params (name, array, k, rows) =
    if bytes_eq name method then wrong_among array k rows params else None

abbrev pub wrong_by : List Part → List ℕ → Option Data → Option Pointer
wrong_by [] method params = None
wrong_by (part ∷ rest) method params =
    option_or (wrong_part method params part) (wrong_by rest method params)

unfoldable pub parts : List Part
parts =
    map (λ part. (
      part.0.now,
      option_map (λ at. at.now) part.1,
      part.2,
      map (λ row. (row.0.now, row.1.now, row.2, row.3)) part.3.now,
    )) PARAMS

-- **the member of the params of a message that does not have its shape**, by the name of the method
-- alone: nothing is wrong with the params of a message of another kind or side that has such a
-- name, and so it is never asked
abbrev pub wrong_member : Message → Option Pointer
wrong_member (request id method params) = wrong_by parts method params
wrong_member (notification method params) = wrong_by parts method params
wrong_member (response id reply) = None

unfoldable pub result_rows : List Row
result_rows = map (λ row. (row.0.now, row.1.now, row.2, row.3)) RESULT

-- **the member of the result of `initialize` that does not have its shape**
abbrev pub wrong_result : Data → Option Pointer
wrong_result d = wrong_in kind.Object result_rows d

-- ---- laws

-- **Of a message whose params do not have the shape of its method (209) a member is named.**
abbrev pub BadParamsHaveMember : Type 0
BadParamsHaveMember = (side : Side) (message : Message)
    → act_at side message ≡ None → (p : Pointer) × (wrong_member message ≡ Some p)

-- **Of a result of `initialize` one is named just where it does not have its shape (501).**
abbrev pub BadResultHasMember : Type 0
BadResultHasMember =
    (d : Data) → (picked_at d ≡ None) ↔ ((p : Pointer) × (wrong_result d ≡ Some p))
