-- Line ends in the bytes of a text.
use Rattle.std.specs.Prelude.{◌≡◌, ◌↔◌, ◌<◌, ◌≤◌, ◌+◌, ◌-◌, ◌&&◌, ◌||◌, ℕ, nat_lt, Bool, true, false, not, cond, List, [], ◌∷◌, ◌++◌, length, take, drop, slice_index}
use Rattle.std.specs.Int.{bit_at}
use Rattle.std.specs.Str.{chars, IsUtf8, IsCharBoundary}
use Rattle.lsp_text.specs.Lines.{is_feed, is_return, starts_with_feed}
use Rattle.lsp_text.specs.LineEnd.{IsEndLen}
use Rattle.lsp_lined.specs.declared.part.LineEnd.{LineEnd}

-- a byte before others ends a line: a LF, or a CR that no LF follows
abbrev pub is_end : ℕ → List ℕ → Bool
is_end b bs = is_feed b || (is_return b && not (starts_with_feed bs))

-- how many of the bytes end a line
abbrev pub ends_in : List ℕ → ℕ
ends_in [] = 0
ends_in (b ∷ bs) = cond (is_end b bs) 1 0 + ends_in bs

-- the places after those, where this many bytes come before
abbrev pub places_behind : ℕ → List ℕ → List ℕ
places_behind n [] = []
places_behind n (b ∷ bs) = cond (is_end b bs) ((n + 1) ∷ places_behind (n + 1) bs) (places_behind (n + 1) bs)

-- where `old` are the places after the line ends of the first `from` bytes, `new` are those of the
-- first `to`
abbrev pub ArePlacesTo : List ℕ → ℕ → List ℕ → ℕ → List ℕ → Type 0
ArePlacesTo bs from old to new =
    new ++ places_behind to (drop to bs) ≡ old ++ places_behind from (drop from bs)

-- a LF or a CR
abbrev pub is_mark : ℕ → Bool
is_mark b = is_feed b || is_return b

-- bit k is set exactly where byte k is a LF or a CR
abbrev pub IsMarked : List ℕ → ℕ → Type 0
IsMarked bs marks = (k : ℕ) → (bit_at marks k ≡ 1) ↔ (is_mark (slice_index bs k) ≡ true)

-- a place, where after `from` some bytes went and others came
abbrev pub moved_place : ℕ → ℕ → ℕ → ℕ → ℕ
moved_place from removed inserted place = cond (nat_lt from place) (place - removed + inserted) place

-- so many of the first places are at most `offset`
pub record IsCountUpTo (places : List ℕ) (offset count : ℕ) : Type 0 where
  pub within : count ≤ length places
  pub up_to : (k : ℕ) → k < count → slice_index places k ≤ offset
  pub over : count < length places → offset < slice_index places count

-- the byte at a place ends a line
abbrev pub is_end_at : List ℕ → ℕ → Bool
is_end_at bs k = is_end (slice_index bs k) (drop (k + 1) bs)

-- a place after `from` stays after what went, and fits the table where it moves to
abbrev pub CanMove : ℕ → ℕ → ℕ → ℕ → Type 0
CanMove from removed inserted place = from < place → (from + removed ≤ place) × (place - removed + inserted < 65536)

-- the last byte is a CR, where the one before the bytes was one by `b`
abbrev pub ends_with_return : Bool → List ℕ → Bool
ends_with_return b [] = b
ends_with_return b (x ∷ xs) = ends_with_return (is_return x) xs

-- the two don't stand apart: a CR ends the first, and a LF begins the second
abbrev pub joins : List ℕ → List ℕ → Bool
joins a b = ends_with_return false a && starts_with_feed b

-- the first `len` bytes from a place on are a line end, of which no part comes before the place
pub record IsEndAt (bs : List ℕ) (at len : ℕ) : Type 0 where
  pub boundary : IsCharBoundary bs at
  pub some : 0 < len
  pub ended : IsEndLen (drop at bs) len
  pub one : ends_in (take len (drop at bs)) ≡ 1
  pub apart : joins (take at bs) (drop at bs) ≡ false

-- bytes begin with these, each a character where it says so
pub record IsNear (bs near : List ℕ) (is_plain : Bool) : Type 0 where
  pub utf8 : IsUtf8 near
  pub more : List ℕ
  pub begins : bs ≡ near ++ more
  pub plain : is_plain ≡ true → length (chars near) ≡ length near

-- bytes begin with these, which are some if there are any, and which no CR LF joins to the others
pub record IsRest (bs rest : List ℕ) : Type 0 where
  pub utf8 : IsUtf8 rest
  pub more : List ℕ
  pub begins : bs ≡ rest ++ more
  pub some : 0 < length bs → 0 < length rest
  pub apart : joins rest more ≡ false

-- line end `n`: the bytes before it and up to after it, and the first bytes of what follows
pub record IsLineEnd (bs : List ℕ) (n : ℕ) (e : LineEnd) : Type 0 where
  pub order : e.at < e.after
  pub end : IsEndAt bs e.at (e.after - e.at)
  pub number : ends_in (take e.at bs) ≡ n
  pub near : IsNear (drop e.after bs) e.rest.now e.is_plain
