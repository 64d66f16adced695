-- A place in a line, as an offset in its bytes.
use Rattle.std.specs.Prelude.{◌≡◌, ◌≤◌, ◌+◌, List, ℕ, cond, nat_lt, take, drop, length}
use Rattle.std.specs.List.{sum_by}
use Rattle.std.specs.declared.option.Option.TheVariants.{Some}
use Rattle.std.specs.Str.{chars, IsUtf8, IsCharBoundary}
use Rattle.lsp_types.specs.declared.position.Encoding.{Encoding}
use Rattle.lsp_types.specs.declared.position.Encoding.TheVariants.{Utf8, Utf16, Utf32}
use Rattle.lsp_types.specs.declared.position.Position.{Position}
use Rattle.lsp_text.specs.Lines.{lines_of, text_of}
use Rattle.lsp_text.specs.Places.{units, place_in_line, place_of}

-- the place that a column denotes in a line has `offset` bytes before it
pub record IsOffset (enc : Encoding) (line : List ℕ) (column offset : ℕ) : Type 0 where
  pub boundary : IsCharBoundary line offset
  pub place : place_in_line enc (chars line) column ≡ Some (length (chars (take offset line)))

-- the first bytes of a line, none of them after the column, and the column in what is left
pub record IsSkipped (enc : Encoding) (line : List ℕ) (column bytes left : ℕ) : Type 0 where
  pub boundary : IsCharBoundary line bytes
  pub left_is : units enc (chars (take bytes line)) + left ≡ column

-- the units that a byte of UTF-8 brings: outside UTF-8 those of the character that it begins, or
-- none
abbrev pub byte_units : Encoding → ℕ → ℕ
byte_units Utf8 b = 1
byte_units Utf16 b = cond (nat_lt b 128) 1 (cond (nat_lt b 192) 0 (cond (nat_lt b 240) 1 2))
byte_units Utf32 b = cond (nat_lt b 128) 1 (cond (nat_lt b 192) 0 1)

-- the first bytes of a line, which may end inside a character, bring no more units than the column,
-- and `left` is what they leave of it
pub record IsPassed (enc : Encoding) (line : List ℕ) (column bytes left : ℕ) : Type 0 where
  pub within : bytes ≤ length line
  pub left_is : sum_by (byte_units enc) (take bytes line) + left ≡ column

-- the place that a position denotes in a text has `offset` bytes before it
pub record IsTextOffset (enc : Encoding) (text : List ℕ) (p : Position) (offset : ℕ) : Type 0 where
  pub boundary : IsCharBoundary text offset
  pub place : place_of enc (chars text) p ≡ Some (length (chars (take offset text)))

-- line `i` of a text begins at byte `start`, and `rest` is the text from there on
pub record IsAtLine (text : List ℕ) (i start : ℕ) (rest : List ℕ) : Type 0 where
  pub at : rest ≡ drop start text
  pub boundary : IsCharBoundary text start
  pub utf8 : IsUtf8 rest
  pub lines : drop i (lines_of (chars text)) ≡ lines_of (chars rest)
  pub front : text_of (take i (lines_of (chars text))) ≡ chars (take start text)
