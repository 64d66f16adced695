-- What lies between two places of a JSON text.
use Rattle.std.specs.Prelude.{◌≡◌, ℕ, ◌+◌, ◌-◌, ◌<◌, ◌≤◌, ◌==◌, ◌||◌, List, length, take, drop}
use Rattle.std.specs.Prelude.{get_or, Bool, true, false, not, ◌&&◌, cond, nat_lt, Some, is_some, nat_eq}
use Rattle.std.specs.Prelude.{[], ◌∷◌, ◌++◌}
use Rattle.std.specs.Char.{is_ascii_digit}
use Rattle.std.specs.List.{list_all, starts_with}
use Rattle.std.specs.Str.Parse.{digits_value}
use Rattle.json.specs.Token.{Token}
use Rattle.json.specs.Text.{content, plain, prepend}
use Rattle.json.specs.Word.{ends_word, is_operator, is_space}
use Rattle.json.specs.Print.{IsNumber}
use Rattle.json.specs.Lex.{lex, between, in_string, Place, fresh, after_value, may_begin, punctuate}
use Rattle.json.specs.Json.{value, items, members, parse_map, read_key}
use Rattle.serde_json.specs.Data.{unsigned, Data, null, array, object, Items, Members, no_members}
use Rattle.serde_json.specs.Read.{of_json, of_items, of_members, converted, number_of}
use Rattle.lsp_walk.specs.declared.walk.Kind.{Kind}
use Rattle.lsp_walk.specs.declared.walk.Kind.TheVariants as kinds

-- the kind of a value, as far as params are judged
abbrev pub kind_of : Data → Kind
kind_of null = kinds.Null
kind_of (array ds) = kinds.Structure
kind_of (object ms) = kinds.Structure
kind_of _ = kinds.Plain

-- the kind of a value that begins with this byte
abbrev pub kind_at : ℕ → Kind
kind_at x = cond ((x == 123) || (x == 91)) kinds.Structure (cond (x == 110) kinds.Null kinds.Plain)

-- the tokens from a place on
abbrev pub tokens_from : Place → List ℕ → ℕ → List Token
tokens_from p d at = punctuate p (lex between (drop at d))

-- the bytes between two places
abbrev pub part : List ℕ → ℕ → ℕ → List ℕ
part d from end = take (end - from) (drop from d)

-- inside a string, this text is between the places
pub record IsRun (d : List ℕ) (from end : ℕ) (s : List ℕ) : Type 0 where
  pub text : content plain (drop from d) ≡ prepend s (content plain (drop end d))
  pub passed : lex in_string (drop from d) ≡ lex in_string (drop end d)
  pub forward : from ≤ end
  pub within : end ≤ length d

-- this is the text of a string, from after its quote up to the place after its closing quote
pub record IsText (d : List ℕ) (from end : ℕ) (s : List ℕ) : Type 0 where
  pub text : content plain (drop from d) ≡ Some s
  pub passed : lex in_string (drop from d) ≡ lex between (drop end d)
  pub forward : from < end
  pub within : end ≤ length d

-- a number that `serde_json` reads
pub record IsNumeral (d : List ℕ) (from end : ℕ) : Type 0 where
  pub number : IsNumber (part d from end)
  pub fits : is_some (number_of (part d from end)) ≡ true
  pub ended : ends_word (drop end d) ≡ true
  pub forward : from < end
  pub within : end ≤ length d

-- an integer of this value, which is not negative
pub record IsNatural (d : List ℕ) (from end n : ℕ) : Type 0 where
  pub numeral : IsNumeral d from end
  pub value : number_of (part d from end) ≡ Some (unsigned n)

-- at most nine digits, none or more, that write this
pub record AreFewDigits (d : List ℕ) (from end n : ℕ) : Type 0 where
  pub digits : list_all is_ascii_digit (part d from end) ≡ true
  pub value : n ≡ digits_value 10 (part d from end)
  pub forward : from ≤ end
  pub few : end - from ≤ 9
  pub within : end ≤ length d

-- a number may end before the byte there
abbrev pub MayEndNumber : List ℕ → ℕ → Type 0
MayEndNumber d at = (is_operator (get_or d at 0) || is_space (get_or d at 0)) ≡ true

-- these bytes, from one place to another
pub record Stand (d : List ℕ) (from : ℕ) (text : List ℕ) (end : ℕ) : Type 0 where
  pub are : drop from d ≡ text ++ drop end d
  pub is : end ≡ from + length text
  pub within : end ≤ length d

-- the keys of a position, with their colons
abbrev pub line_key : List ℕ
line_key = 34 ∷ 108 ∷ 105 ∷ 110 ∷ 101 ∷ 34 ∷ 58 ∷ []

abbrev pub character_key : List ℕ
character_key =
    34 ∷ 99 ∷ 104 ∷ 97 ∷ 114 ∷ 97 ∷ 99 ∷ 116 ∷ 101 ∷ 114 ∷ 34 ∷ 58 ∷ []

-- the keys of a range, with their colons
abbrev pub start_key : List ℕ
start_key = 34 ∷ 115 ∷ 116 ∷ 97 ∷ 114 ∷ 116 ∷ 34 ∷ 58 ∷ []

abbrev pub end_key : List ℕ
end_key = 34 ∷ 101 ∷ 110 ∷ 100 ∷ 34 ∷ 58 ∷ []

-- the literal of this name
pub record IsLiteral (d : List ℕ) (from : ℕ) (name : List ℕ) (end : ℕ) : Type 0 where
  pub is : end ≡ from + length name
  pub named : starts_with nat_eq (drop from d) name ≡ true
  pub ended : ends_word (drop end d) ≡ true
  pub within : end < length d

-- this value, where one may begin
pub record IsValue (depth : ℕ) (d : List ℕ) (from end : ℕ) (x : Data) : Type 0 where
  pub read : (p : Place) → may_begin p ≡ true
      → converted of_json (value depth (tokens_from p d from))
      ≡ Some (x, tokens_from after_value d end)
  pub kind : kind_at (get_or d from 0) ≡ kind_of x
  pub forward : from < end
  pub within : end ≤ length d

-- the rest of an array that holds these items
pub record AreItems (depth : ℕ) (d : List ℕ) (from end : ℕ) (xs : Items) : Type 0 where
  pub read : let ts = tokens_from fresh d from in converted of_items
      (items (value depth) (length ts) ts) ≡ Some (xs, tokens_from after_value d end)
  pub forward : from < end
  pub within : end ≤ length d

-- the rest of an object that holds these members
pub record AreMembers (depth : ℕ) (d : List ℕ) (from end : ℕ) (xs : Members) : Type 0 where
  pub read : let ts = tokens_from fresh d from in converted (λ ms. of_members ms no_members)
      (members (value depth) (length ts) ts) ≡ Some (xs, tokens_from after_value d end)
  pub forward : from < end
  pub within : end ≤ length d

-- an array up to a place where an item may begin, and what the items before it put in front of the
-- rest
pub record SomeItems (depth : ℕ) (d : List ℕ) (from at : ℕ) : Type 0 where
  pub place : Place
  pub begins : may_begin place ≡ true
  pub turns : ℕ
  pub front : Items → Items
  pub enough : length (tokens_from place d at) ≤ turns
  pub same : let ts = tokens_from fresh d from in
      converted of_items (items (value depth) (length ts) ts)
      ≡ parse_map front (converted of_items (items (value depth) turns
      (tokens_from place d at)))
  pub forward : from ≤ at
  pub within : at ≤ length d

-- a key, its colon and the space after it
pub record IsKey (d : List ℕ) (from end : ℕ) (k : List ℕ) : Type 0 where
  pub read : (p : Place) → may_begin p ≡ true
      → read_key (tokens_from p d from) ≡ Some (Some k, tokens_from fresh d end)
  pub forward : from < end
  pub within : end ≤ length d

-- whether no array of numbers that are digits alone has this byte, with these two after it: it is
-- neither a digit nor a comma, or it is a comma before another one, or before a zero with more
-- digits
abbrev pub is_fault : ℕ → ℕ → ℕ → Bool
is_fault x next after =
    nat_lt 57 x || ((nat_lt x 48 && not (x == 44))
    || ((x == 44) && ((next == 44) || ((next == 48) && not (after == 44)))))

-- the same of each byte of a block, with the blocks that begin one and two bytes later
abbrev pub fault_lanes : List ℕ → List ℕ → List ℕ → List Bool
fault_lanes (x ∷ xs) (y ∷ ys) (z ∷ zs) = is_fault x y z ∷ fault_lanes xs ys zs
fault_lanes _ _ _ = []

-- no number begins there with a zero before more digits, and no comma stands there
pub record NumberMayBegin (d : List ℕ) (at : ℕ) : Type 0 where
  pub some : (get_or d at 0 == 44) ≡ false
  pub zero : (get_or d at 0 == 48) ≡ true → (get_or d (at + 1) 0 == 44) ≡ true
