-- The place at which two texts, lists of characters, first differ, and the line in which a place
-- lies.
use Rattle.std.specs.Prelude.{◌≡◌, ◌≢◌, ◌⊎◌, ◌<◌, ◌≤◌, ◌+◌, ◌-◌, ◌^◌, ℕ, List, ◌∷◌, ◌++◌, length, take, drop, min, slice_get}
use Rattle.lsp_types.specs.declared.position.Encoding.{Encoding}
use Rattle.lsp_types.specs.declared.position.Position.{Position}
use Rattle.lsp_text.specs.Lines.{lines_of, text_of, spelled, line_at}
use Rattle.lsp_text.specs.Places.{units, Denotes}

-- the first n characters are the same, and at n they differ, or one text ends there and the other
-- continues
pub record IsFirstDifference (a b : List ℕ) (n : ℕ) : Type 0 where
  pub before : take n a ≡ take n b
  pub here : slice_get a n ≢ slice_get b n

-- they first differ at a place of which this holds
abbrev pub DifferFirst : List ℕ → List ℕ → (ℕ → Type 0) → Type 0
DifferFirst a b P = (n : ℕ) × IsFirstDifference a b n × P n

-- they first differ at n, and at no other place
pub record IsOnlyDifference (a b : List ℕ) (n : ℕ) : Type 0 where
  pub first : IsFirstDifference a b n
  pub only : (m : ℕ) → IsFirstDifference a b m → m ≡ n

-- two texts are equal and nowhere first differ, or do so at exactly one place
abbrev pub OneDifference : Type 0
OneDifference = (a b : List ℕ) → ((a ≡ b) × ((n : ℕ) → IsFirstDifference a b n → ⊥)) ⊎ ((n : ℕ) × IsOnlyDifference a b n)

-- the number of the line in which a place lies: all lines but those from there on. A place between
-- a CR and a LF lies in the line that both end, and the end of a text in its last line
abbrev pub line_number_at : List ℕ → ℕ → ℕ
line_number_at t n = length (lines_of t) - length (lines_of (drop n t))

-- that line, its line end included
abbrev pub line_around : List ℕ → ℕ → List ℕ
line_around t n = spelled (line_at (line_number_at t n) t)

-- its characters before the place
abbrev pub line_before_place : List ℕ → ℕ → List ℕ
line_before_place t n = drop (length (text_of (take (line_number_at t n) (lines_of t)))) (take n t)

-- the line's number and the units before the place there, each at most 2^32 - 1
abbrev pub position_at : Encoding → List ℕ → ℕ → Position
position_at enc t n = record { line = min (line_number_at t n) (2 ^ 32 - 1); column = min (units enc (line_before_place t n)) (2 ^ 32 - 1) }

-- the place lies between a CR and a LF
pub record LiesInsideEnd (t : List ℕ) (n : ℕ) : Type 0 where
  pub before : List ℕ
  pub after : List ℕ
  pub text : t ≡ before ++ 13 ∷ 10 ∷ after
  pub place : n ≡ length before + 1

-- every other place of a text is the one that its position denotes, where the position's numbers
-- are below 2^32
abbrev pub PlacesHavePositions : Type 0
PlacesHavePositions =
    (enc : Encoding) (t : List ℕ) (n : ℕ) → n ≤ length t → (LiesInsideEnd t n → ⊥) →
    line_number_at t n < 2 ^ 32 → units enc (line_before_place t n) < 2 ^ 32 → Denotes enc t (position_at enc t n) n
