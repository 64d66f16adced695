-- Parts of a text, each seen as its bytes.
use Rattle.std.specs.Prelude.{◌≡◌, ◌<◌, ◌≤◌, ◌+◌, ◌-◌, ◌^◌, ◌⊎◌, ℕ, Bool, true, false, List, [], ◌∷◌, length, map, take, drop, slice_index, slice_index_or, EachIndex}
use Rattle.std.specs.declared.option.Option.{Option}
use Rattle.std.specs.declared.option.Option.TheVariants.{Some, None}
use Rattle.std.specs.List.{flat_map, sum_by, replace_range}
use Rattle.std.specs.Str.{IsUtf8, IsCharBoundary}
use Rattle.lsp_lined.specs.Ends.{joins, places_behind, moved_place, CanMove}
use Rattle.lsp_lined.specs.Sums.{amount, sums_of}
use Rattle.lsp_lined.specs.declared.sums.Sums.{Sums}
use Rattle.lsp_lined.specs.declared.sums.Measure.{Measure}
use Rattle.lsp_lined.specs.declared.part.Found.{Found}
use Rattle.lsp_lined.specs.declared.part.Spot.{Spot}
use Rattle.lsp_text.specs.Spans.{CanReplace}

-- the text that parts make, one after another
abbrev pub joined : List (List ℕ) → List ℕ
joined ps = flat_map (λ (p : List ℕ). p) ps

-- each is text, and no CR at the end of one meets a LF
abbrev pub AreParts : List (List ℕ) → Type 0
AreParts [] = Unit {0}
AreParts (p ∷ ps) = IsUtf8 p × (joins p (joined ps) ≡ false) × AreParts ps

-- parts make up a text
pub record MakeUp (ps : List (List ℕ)) (bs : List ℕ) : Type 0 where
  pub some : 0 < length ps
  pub parts : AreParts ps
  pub text : joined ps ≡ bs

-- there are parts, and a number can count their bytes
pub record AreKept (ps : List (List ℕ)) : Type 0 where
  pub some : 0 < length ps
  pub parts : AreParts ps
  pub fits : length (joined ps) < 2 ^ 64

abbrev pub part_at : List (List ℕ) → ℕ → List ℕ
part_at ps i = slice_index_or ps i []

-- number `at` of a measure falls in this part, or after all but the last
pub record IsFound (ps : List (List ℕ)) (by : Measure) (at : ℕ) (f : Found) : Type 0 where
  pub index : f.index < length ps
  pub bytes_are : f.bytes ≡ length (joined (take f.index ps))
  pub left_is : sum_by (amount by) (take f.index ps) + f.left ≡ at
  pub inside : f.index + 1 < length ps → f.left < amount by (part_at ps f.index)

-- the byte before a place is in this part; before the first byte stand none
pub record IsFoundBefore (ps : List (List ℕ)) (place : ℕ) (f : Found) : Type 0 where
  pub index : f.index < length ps
  pub bytes_are : f.bytes ≡ length (joined (take f.index ps))
  pub place_is : f.bytes + f.left ≡ place
  pub within : f.left ≤ length (part_at ps f.index)
  pub front : (0 < f.left) ⊎ (joined (take f.index ps) ≡ [])

-- an edit stays in this part, and leaves its first byte after others and its last byte before
-- others
pub record IsSpot (ps : List (List ℕ)) (from to : ℕ) (s : Spot) : Type 0 where
  pub index : s.index < length ps
  pub from_is : length (joined (take s.index ps)) + s.from ≡ from
  pub to_is : length (joined (take s.index ps)) + s.to ≡ to
  pub within : s.to ≤ length (part_at ps s.index)
  pub front : (0 < s.from) ⊎ (joined (take s.index ps) ≡ [])
  pub back : (s.to < length (part_at ps s.index)) ⊎ (s.index + 1 ≡ length ps)

-- the text took their place, or nothing changed
abbrev pub IsReplacedOr : List ℕ → ℕ → ℕ → List ℕ → List ℕ → Bool → Type 0
IsReplacedOr old from to text new true = new ≡ replace_range old from to text
IsReplacedOr old from to text new false = new ≡ old

-- a text may be cut at a place
pub record IsCutPlace (bs : List ℕ) (at : ℕ) : Type 0 where
  pub some : 0 < at
  pub boundary : IsCharBoundary bs at
  pub apart : joins (take at bs) (drop at bs) ≡ false

-- a text may be cut here, or at its ends: neither inside a character nor between CR and LF
pub record IsSeam (bs : List ℕ) (at : ℕ) : Type 0 where
  pub boundary : IsCharBoundary bs at
  pub apart : joins (take at bs) (drop at bs) ≡ false

-- some bytes that may be cut out
pub record IsSpan (bs : List ℕ) (from to : ℕ) : Type 0 where
  pub order : from ≤ to
  pub first : IsSeam bs from
  pub second : IsSeam bs to
  pub utf8 : IsUtf8 bs
  pub fits : length bs < 2 ^ 64

-- these are the sums where a text replaces some bytes, and the places after line ends only move
pub record KeepsEnds (bs : List ℕ) (from to : ℕ) (text : List ℕ) (sums : Sums) : Type 0 where
  pub sums_are : sums ≡ sums_of (replace_range bs from to text)
  pub places : places_behind 0 (replace_range bs from to text) ≡ map (moved_place from (to - from) (length text)) (places_behind 0 bs)
  pub moves : EachIndex (places_behind 0 bs) (λ k. CanMove from (to - from) (length text) (slice_index (places_behind 0 bs) k))

-- a text may replace some bytes of a text in parts, whose sums are known
pub record CanReplaceIn (ps : List (List ℕ)) (sums : Sums) (from to : ℕ) (text : List ℕ) : Type 0 where
  pub some : 0 < length ps
  pub parts : AreParts ps
  pub fits : length (joined ps) < 2 ^ 64
  pub sums_are : sums ≡ sums_of (joined ps)
  pub can : CanReplace (joined ps) from to
  pub new_fits : length (replace_range (joined ps) from to text) < 2 ^ 64

-- one of the parts took the text, and these are the sums
pub record IsReplacedIn (ps : List (List ℕ)) (from to : ℕ) (text : List ℕ) (new : List (List ℕ)) (sums : Sums) : Type 0 where
  pub some : 0 < length new
  pub parts : AreParts new
  pub text_is : joined new ≡ replace_range (joined ps) from to text
  pub sums_are : sums ≡ sums_of (joined new)

-- or none of them changed
abbrev pub IsReplacedInOr : List (List ℕ) → ℕ → ℕ → List ℕ → List (List ℕ) → Option Sums → Type 0
IsReplacedInOr ps from to text new (Some sums) = IsReplacedIn ps from to text new sums
IsReplacedInOr ps from to text new None = new ≡ ps
