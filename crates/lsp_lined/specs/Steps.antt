-- Steps of an edit.
use Rattle.std.specs.Prelude.{◌≡◌, ◌≤◌, ℕ, ◌+◌, ◌-◌, ◌^◌, List, length, min, max, slice_range}
use Rattle.lsp_types.specs.declared.position.Encoding.TheVariants.{Utf8}
use Rattle.lsp_types.specs.declared.position.Position.{Position}
use Rattle.lsp_types.specs.declared.position.Span.{Span}
use Rattle.lsp_text.specs.Lines.{lines_of, line_at, text_of, spelled}
use Rattle.lsp_text.specs.Places.{units}

-- a count of at most 2^64 - 1
abbrev pub raised : ℕ → ℕ → ℕ
raised count n = min (count + n) (2 ^ 64 - 1)

-- the count rose by some number between two bounds
pub record RisesWithin (old new low high : ℕ) : Type 0 where
  pub by : ℕ
  pub least : low ≤ by
  pub most : by ≤ high
  pub is : new ≡ raised old by

-- the bytes of a line and its end
abbrev pub line_bytes : List ℕ → ℕ → ℕ
line_bytes t i = units Utf8 (spelled (line_at i t))

-- the line that a position falls in, at most the last
abbrev pub line_number : List ℕ → Position → ℕ
line_number t p = min p.line (length (lines_of t) - 1)

-- the bytes of the lines from one to another, in either order, and of the line before them
abbrev pub bytes_about : List ℕ → ℕ → ℕ → ℕ
bytes_about t i j = units Utf8 (text_of (slice_range (lines_of t) (min i j - 1) (max i j + 1)))

-- the bytes that an edit has to touch: those of its lines, of the line before them, and of `s`
abbrev pub touched : List ℕ → Span → List ℕ → ℕ
touched t span s = bytes_about t (line_number t span.first) (line_number t span.second) + units Utf8 s
