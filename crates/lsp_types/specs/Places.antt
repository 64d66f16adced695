-- The order of a map's entries, by their places: slots that hold a place or are empty, and back.
use Rattle.std.specs.Prelude.{◌≡◌, ℕ, ◌+◌, ◌-◌, ◌<◌, drop, List, [], ◌∷◌, ◌++◌, length, map, filter}
use Rattle.std.specs.Prelude.{not, nat_eq, Bool, true, false, if◌then◌else◌, Option, Some, None}
use Rattle.std.specs.Prelude.{slice_get, slice_set, option_to_list}
use Rattle.std.specs.List.{list_any, IsDistinct}
use Rattle.std.specs.Map.{keys_of}

-- the places in the slots, in order
abbrev pub places_in : List (Option ℕ) → List ℕ
places_in [] = []
places_in (None ∷ slots) = places_in slots
places_in (Some place ∷ slots) = place ∷ places_in slots

-- each place is in its slot, and no other place is
pub record AreTied (slots : List (Option ℕ)) (slot_of : List ℕ) : Type 0 where
  pub there : (place slot : ℕ) → slice_get slot_of place ≡ Some slot
      → slice_get slots slot ≡ Some (Some place)
  pub back : (slot place : ℕ) → slice_get slots slot ≡ Some (Some place)
      → slice_get slot_of place ≡ Some slot
  pub count : length (places_in slots) ≡ length slot_of

-- this place in a slot, where there is a slot
abbrev pub refilled : Option ℕ → ℕ → List (Option ℕ) → List (Option ℕ)
refilled None place slots = slots
refilled (Some slot) place slots = slice_set slots slot (Some place)

abbrev pub AllBelow : ℕ → List ℕ → Type 0
AllBelow n [] = Unit {0}
AllBelow n (place ∷ places) = (place < n) × AllBelow n places

abbrev pub AllDiffer : List ℕ → Type 0
AllDiffer [] = Unit {0}
AllDiffer (place ∷ places) = (list_any (nat_eq place) places ≡ false) × AllDiffer places

-- the places below n, each once
pub record IsOrder (places : List ℕ) (n : ℕ) : Type 0 where
  pub count : length places ≡ n
  pub below : AllBelow n places
  pub differ : AllDiffer places
  pub each : (place : ℕ) → place < n → list_any (nat_eq place) places ≡ true

-- the number of a place after another one left, whose number the last place takes
abbrev pub moved : ℕ → ℕ → ℕ → ℕ
moved last left place = if nat_eq place last then left else place

-- the order after a place left
abbrev pub without_place : ℕ → List ℕ → List ℕ
without_place left places =
    map (moved (length places - 1) left) (filter (λ place. not (nat_eq place left)) places)

-- what a map keeps: no two of its keys are equal, and each of its entries occurs once in the order
pub record IsKept {K V : Type 0} (eq : K → K → Bool) (entries : List (K × V))
    (places : List ℕ) : Type 0 where
  pub order : IsOrder places (length entries)
  pub unique : IsDistinct eq (keys_of entries)

-- the items at these places
abbrev pub in_order : {X : Type 0} → List ℕ → List X → List X
in_order [] xs = []
in_order (place ∷ places) xs = option_to_list (slice_get xs place) ++ in_order places xs

-- the place in the first slot from this one on that is not empty, and the slot after that
abbrev pub IsNextPlace : List (Option ℕ) → ℕ → Option (ℕ × ℕ) → Type 0
IsNextPlace slots from None = places_in (drop from slots) ≡ []
IsNextPlace slots from (Some found) =
    places_in (drop from slots) ≡ found.0 ∷ places_in (drop found.1 slots)
