-- The character inside which a position lies.
use Rattle.std.specs.Prelude.{◌≡◌, ◌<◌, ◌+◌, ◌↔◌, ℕ, List, ◌∷◌, ◌++◌, slice_get, Some, None}
use Rattle.lsp_types.specs.declared.position.Encoding.{Encoding}
use Rattle.lsp_types.specs.declared.position.Position.{Position}
use Rattle.lsp_text.specs.Lines.{Line, lines_of}
use Rattle.lsp_text.specs.Places.{units, units_of_char, place_of}

-- a column of a line lies after the first unit of this character, and before its end
pub record FallsInside (enc : Encoding) (line : List ℕ) (column c : ℕ) : Type 0 where
  pub before : List ℕ
  pub after : List ℕ
  pub parts : line ≡ before ++ c ∷ after
  pub begun : units enc before < column
  pub unended : column < units enc before + units_of_char enc c

-- a position of a text lies inside this character
pub record LiesInside (enc : Encoding) (t : List ℕ) (p : Position) (c : ℕ) : Type 0 where
  pub line : Line
  pub there : slice_get (lines_of t) p.line ≡ Some line
  pub falls : FallsInside enc line.text p.column c

-- **a position denotes no place exactly where it lies inside a character**, and it lies inside no
-- two
pub record PositionsLieInside : Type 0 where
  pub inside : (enc : Encoding) (t : List ℕ) (p : Position) → (place_of enc t p ≡ None) ↔ ((c : ℕ) × LiesInside enc t p c)
  pub once : (enc : Encoding) (t : List ℕ) (p : Position) (c d : ℕ) → LiesInside enc t p c → LiesInside enc t p d → c ≡ d
