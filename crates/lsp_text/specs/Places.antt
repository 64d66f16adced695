-- Units of characters, and the place that a position denotes.
use Rattle.std.specs.Prelude.{◌≡◌, ◌≤◌, ◌+◌, ◌-◌, ◌⊎◌, ◌↔◌, ℕ, cond, nat_lt, List, [], ◌∷◌, ◌++◌, length, take, slice_get}
use Rattle.std.specs.Option.{option_map}
use Rattle.std.specs.declared.option.Option.{Option}
use Rattle.std.specs.declared.option.Option.TheVariants.{Some, None}
use Rattle.std.specs.Char.{len_utf8}
use Rattle.lsp_types.specs.declared.position.Encoding.{Encoding}
use Rattle.lsp_types.specs.declared.position.Encoding.TheVariants.{Utf8, Utf16, Utf32}
use Rattle.lsp_types.specs.declared.position.Position.{Position}
use Rattle.lsp_text.specs.Lines.{Line, text_of, lines_of}

-- the units of a character in an encoding
abbrev pub units_of_char : Encoding → ℕ → ℕ
units_of_char Utf8 c = len_utf8 c
units_of_char Utf16 c = cond (nat_lt c 0x1_0000) 1 2
units_of_char Utf32 c = 1

-- the units of a text
abbrev pub units : Encoding → List ℕ → ℕ
units enc [] = 0
units enc (c ∷ cs) = units_of_char enc c + units enc cs

-- the characters of a line before a column: all where the column is at least the line's units, and
-- none such where it lies inside a character
abbrev pub place_in_line : Encoding → List ℕ → ℕ → Option ℕ
place_in_line enc [] column = Some 0
place_in_line enc (c ∷ cs) column =
    cond (nat_lt column 1) (Some 0)
    (cond (nat_lt column (units_of_char enc c)) None (option_map (λ k. k + 1) (place_in_line enc cs (column - units_of_char enc c))))

-- the same in a line, with the characters before it
abbrev pub place_at : Encoding → List Line → Position → Option Line → Option ℕ
place_at enc ls p None = Some (length (text_of ls))
place_at enc ls p (Some l) = option_map (λ k. length (text_of (take p.line ls)) + k) (place_in_line enc l.text p.column)

-- the same in lines; past the last one, the end of the text
abbrev pub place_in : Encoding → List Line → Position → Option ℕ
place_in enc ls p = place_at enc ls p (slice_get ls p.line)

-- the place that a position denotes in a text
abbrev pub place_of : Encoding → List ℕ → Position → Option ℕ
place_of enc t p = place_in enc (lines_of t) p

-- `k` is a place of the line at `p.line`, before its end, and the units before it there are the
-- column, or the line's where the column is no less
pub record IsPlaceInLine (enc : Encoding) (ls : List Line) (p : Position) (k : ℕ) : Type 0 where
  pub before : List Line
  pub line : Line
  pub after : List Line
  pub lines : ls ≡ before ++ line ∷ after
  pub number : length before ≡ p.line
  pub offset : ℕ
  pub place : k ≡ length (text_of before) + offset
  pub within : offset ≤ length line.text
  pub column : ((units enc line.text ≤ p.column) × (offset ≡ length line.text)) ⊎ (units enc (take offset line.text) ≡ p.column)

-- the position denotes the place `k`
abbrev pub Denotes : Encoding → List ℕ → Position → ℕ → Type 0
Denotes enc t p k = ((length (lines_of t) ≤ p.line) × (k ≡ length t)) ⊎ IsPlaceInLine enc (lines_of t) p k

-- a position denotes exactly the place that `place_of` computes
abbrev pub PlacesAreDenoted : Type 0
PlacesAreDenoted = (enc : Encoding) (t : List ℕ) (p : Position) (k : ℕ) → (place_of enc t p ≡ Some k) ↔ Denotes enc t p k

-- a position denotes at most one place
abbrev pub OnePlaceAtMost : Type 0
OnePlaceAtMost = (enc : Encoding) (t : List ℕ) (p : Position) (k m : ℕ) → Denotes enc t p k → Denotes enc t p m → k ≡ m

-- no position denotes the place between a CR and a LF
abbrev pub NoneInsideLineEnd : Type 0
NoneInsideLineEnd = (enc : Encoding) (before after : List ℕ) (p : Position) → Denotes enc (before ++ 13 ∷ 10 ∷ after) p (length before + 1) → ⊥

-- where columns count characters, each position denotes a place
abbrev pub CharactersDenote : Type 0
CharactersDenote = (t : List ℕ) (p : Position) → (k : ℕ) × Denotes Utf32 t p k
