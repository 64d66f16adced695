-- Where two texts part, and where a line begins, in their bytes.
use Rattle.std.specs.Prelude.{◌≡◌, ◌⊎◌, ◌<◌, ◌≤◌, ◌+◌, ◌-◌, ℕ, List, length, take, drop, slice_index}
use Rattle.std.specs.Str.{chars, IsCharBoundary}
use Rattle.lsp_text.specs.Lines.{lines_of, AreJoined}
use Rattle.lsp_text.specs.Difference.{IsFirstDifference}

-- the first n bytes of both are there, and the same
pub record AreSameTo (a b : List ℕ) (n : ℕ) : Type 0 where
  pub left : n ≤ length a
  pub right : n ≤ length b
  pub same : take n a ≡ take n b

-- the last n bytes of both are there, and the same
pub record AreSameEnds (a b : List ℕ) (n : ℕ) : Type 0 where
  pub left : n ≤ length a
  pub right : n ≤ length b
  pub same : drop (length a - n) a ≡ drop (length b - n) b

-- and begin with a character in both
pub record AreSameFrom (a b : List ℕ) (n : ℕ) : Type 0 where
  pub ends : AreSameEnds a b n
  pub left : IsCharBoundary a (length a - n)
  pub right : IsCharBoundary b (length b - n)

-- the texts first differ after this many bytes
pub record IsParting (a b : List ℕ) (offset : ℕ) : Type 0 where
  pub left : IsCharBoundary a offset
  pub right : IsCharBoundary b offset
  pub same : take offset a ≡ take offset b
  pub first : IsFirstDifference (chars a) (chars b) (length (chars (take offset a)))

-- a CR comes before the place, and a LF after it
pub record IsInsideEnd (bs : List ℕ) (offset : ℕ) : Type 0 where
  pub some : 0 < offset
  pub more : offset < length bs
  pub return : slice_index bs (offset - 1) ≡ 13
  pub feed : slice_index bs offset ≡ 10

-- the bytes before a place, without the CR where it lies inside a line end
abbrev pub IsSearchEnd : List ℕ → ℕ → ℕ → Type 0
IsSearchEnd bs offset end = (IsInsideEnd bs offset × (end + 1 ≡ offset)) ⊎ ((IsInsideEnd bs offset → ⊥) × (end ≡ offset))

-- the line in which the place lies begins after `start` bytes: as many lines follow from there as
-- from the place
pub record IsLineStart (bs : List ℕ) (offset start : ℕ) : Type 0 where
  pub within : start ≤ offset
  pub boundary : IsCharBoundary bs start
  pub lines : AreJoined (chars (take start bs)) (chars (drop start bs))
  pub inside : length (lines_of (chars (drop start bs))) ≡ length (lines_of (chars (drop offset bs)))
