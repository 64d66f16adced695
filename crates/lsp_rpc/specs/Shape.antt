-- The tests that the rules on a message are made of. An absent member is `None`.
use Rattle.std.specs.Prelude.{ℕ, ℤ, pos, negsuc, ◌^◌, ◌-◌, ◌&&◌, ◌||◌, List, Bool, true, false, int_lt, int_le, if◌then◌else◌, Option, Some, None, is_some, unwrap_or, option_map, option_and_then}
use Rattle.std.specs.Str.{bytes_eq}
use Rattle.serde_json.specs.Data.{Data, number, string}
use Rattle.serde_json.specs.Find.{get, as_null, as_number, as_str, as_array, as_object, as_i64}
use Rattle.lsp_rpc.specs.Ident as ident
use Rattle.lsp_rpc.specs.Ident.{Ident}

-- the member of this name
abbrev pub member : List ℕ → Data → Option Data
member = get

abbrev pub is_object : Data → Bool
is_object d = is_some (as_object d)

abbrev pub is_string : Data → Bool
is_string d = is_some (as_str d)

abbrev pub is_null : Data → Bool
is_null d = is_some (as_null d)

abbrev pub unless_null : Data → Option Data
unless_null d = if is_null d then None else Some d

-- an array or an object
abbrev pub is_structure : Data → Bool
is_structure d = is_some (as_array d) || is_some (as_object d)

abbrev pub is_structure_or_null : Data → Bool
is_structure_or_null d = is_structure d || is_null d

-- an integer of 32 bits
abbrev pub small : ℤ → Option ℤ
small z = if int_le (negsuc (2 ^ 31 - 1)) z && int_lt z (pos (2 ^ 31)) then Some z else None

abbrev pub as_integer : Data → Option ℤ
as_integer d = option_and_then small (option_and_then as_i64 (as_number d))

-- an integer or a string
abbrev pub as_id : Data → Option Ident
as_id (number n) = option_map ident.number (as_integer (number n))
as_id (string s) = Some (ident.text s)
as_id _ = None

-- the test holds of what is there
abbrev pub holds_of : (Data → Bool) → Option Data → Bool
holds_of test None = false
holds_of test (Some d) = test d

-- nothing is there, or the test holds of it
abbrev pub holds_unless_absent : (Data → Bool) → Option Data → Bool
holds_unless_absent test None = true
holds_unless_absent test (Some d) = test d

-- the string of this text
abbrev pub is_text : List ℕ → Data → Bool
is_text s d = unwrap_or (option_map (λ t. bytes_eq t s) (as_str d)) false

abbrev pub is_id : Data → Bool
is_id d = is_some (as_id d)

-- the id of a response may be null
abbrev pub is_id_or_null : Data → Bool
is_id_or_null d = is_id d || is_null d
