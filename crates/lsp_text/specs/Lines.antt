-- How a text, a list of characters, is cut into lines.
use Rattle.std.specs.Prelude.{◌≡◌, ◌⊎◌, ◌==◌, ◌||◌, ℕ, Bool, true, false, cond, List, [], ◌∷◌, ◌++◌, slice_index_or}
use Rattle.std.specs.List.{flat_map}

-- a line's characters, and those of its line end: CR LF, LF, CR, or none
pub record Line : Type 0 where
  pub text : List ℕ
  pub end : List ℕ

-- a line with no end
abbrev pub open_line : List ℕ → Line
open_line text = record { text = text; end = [] }

-- a line as it is in the text
abbrev pub spelled : Line → List ℕ
spelled l = l.text ++ l.end

-- the text that lines write
abbrev pub text_of : List Line → List ℕ
text_of ls = flat_map spelled ls

abbrev pub is_return : ℕ → Bool
is_return c = c == 13

abbrev pub is_feed : ℕ → Bool
is_feed c = c == 10

-- the text begins with a LF
abbrev pub starts_with_feed : List ℕ → Bool
starts_with_feed [] = false
starts_with_feed (c ∷ cs) = is_feed c

-- no CR and no LF
abbrev pub has_no_line_end : List ℕ → Bool
has_no_line_end [] = true
has_no_line_end (c ∷ cs) = cond (is_feed c || is_return c) false (has_no_line_end cs)

-- CR LF, LF, or a CR that stands not directly before a LF
abbrev pub IsEndBefore : List ℕ → List ℕ → Type 0
IsEndBefore rest end = (end ≡ 13 ∷ 10 ∷ []) ⊎ ((end ≡ 10 ∷ []) ⊎ ((end ≡ 13 ∷ []) × (starts_with_feed rest ≡ false)))

-- each line has an end, and none inside, where `rest` comes after them
abbrev pub AreEnded : List ℕ → List Line → Type 0
AreEnded rest [] = Unit {0}
AreEnded rest (l ∷ ls) = (has_no_line_end l.text ≡ true) × IsEndBefore (text_of ls ++ rest) l.end × AreEnded rest ls

-- the one way to write a text as lines: each but the last has an end, and no line has one inside
pub record IsCut (t : List ℕ) (ls : List Line) : Type 0 where
  pub front : List Line
  pub last : List ℕ
  pub lines : ls ≡ front ++ open_line last ∷ []
  pub ended : AreEnded last front
  pub whole : has_no_line_end last ≡ true
  pub text : text_of front ++ last ≡ t

-- the lines of a text, from its end: a character comes before the lines of what follows it
abbrev pub before_line : List ℕ → List Line → List Line
before_line cs [] = open_line cs ∷ []
before_line cs (l ∷ ls) = record { text = cs ++ l.text; end = l.end } ∷ ls

abbrev pub before_end : ℕ → List Line → List Line
before_end c [] = []
before_end c (l ∷ ls) = record { text = l.text; end = c ∷ l.end } ∷ ls

abbrev pub ended_line : ℕ → Line
ended_line c = record { text = []; end = c ∷ [] }

abbrev pub put_before : ℕ → List ℕ → List Line → List Line
put_before c rest ls =
    cond (is_feed c) (ended_line c ∷ ls)
    (cond (is_return c) (cond (starts_with_feed rest) (before_end c ls) (ended_line c ∷ ls)) (before_line (c ∷ []) ls))

abbrev pub lines_of : List ℕ → List Line
lines_of [] = open_line [] ∷ []
lines_of (c ∷ cs) = put_before c cs (lines_of cs)

-- the text ends with this
pub record EndsWith (t end : List ℕ) : Type 0 where
  pub before : List ℕ
  pub text : t ≡ before ++ end

-- the text ends with CR LF, LF or CR
abbrev pub EndsWithLineEnd : List ℕ → Type 0
EndsWithLineEnd t = EndsWith t (13 ∷ 10 ∷ []) ⊎ (EndsWith t (10 ∷ []) ⊎ EndsWith t (13 ∷ []))

-- the lines of `t` then `s` are those of `t` without its last, empty line, and then those of `s`
pub record AreJoined (t s : List ℕ) : Type 0 where
  pub front : List Line
  pub first : lines_of t ≡ front ++ open_line [] ∷ []
  pub both : lines_of (t ++ s) ≡ front ++ lines_of s

-- **The law of re-cutting,** where `t` ends with a line end, except where it ends with CR and `s`
-- begins with LF
abbrev pub LinesOfJoined : Type 0
LinesOfJoined = (t s : List ℕ) → EndsWithLineEnd t → (EndsWith t (13 ∷ []) → starts_with_feed s ≡ false) → AreJoined t s

-- the lines of a text are its one cut
abbrev pub LinesAreTheCut : Type 0
LinesAreTheCut = (t : List ℕ) → IsCut t (lines_of t) × ((ls : List Line) → IsCut t ls → ls ≡ lines_of t)

-- line `i` of a text
abbrev pub line_at : ℕ → List ℕ → Line
line_at i t = slice_index_or (lines_of t) i (open_line [])
