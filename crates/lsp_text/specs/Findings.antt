-- What of a change does not fit the text that it is made in: a position past the end, and a range's
-- length that is not that of the text in the range. No rule refuses either.
use Rattle.std.specs.Prelude.{ℕ, ℤ, pos, int_lt, nat_lt, Bool, ◌||◌, List, [], ◌∷◌, ◌++◌, length}
use Rattle.std.specs.Prelude.{if◌then◌else◌, slice_range, slice_get, Option, Some, None, Result}
use Rattle.std.specs.Prelude.{Ok, Err}
use Rattle.std.specs.Option.{option_or, option_and_then}
use Rattle.std.specs.Ordering.{int_eq}
use Rattle.lsp_types.specs.declared.position.Encoding.{Encoding}
use Rattle.lsp_types.specs.declared.position.Encoding.TheVariants.{Utf8, Utf16, Utf32}
use Rattle.lsp_types.specs.declared.position.Position.{Position}
use Rattle.lsp_types.specs.declared.position.Span.{Span}
use Rattle.lsp_text.specs.Lines.{Line, lines_of}
use Rattle.lsp_text.specs.Places.{units, place_of}
use Rattle.lsp_text.specs.Edits.{Edit, applied}
use Rattle.lsp_text.specs.declared.findings.Extent.{Extent}
use Rattle.lsp_text.specs.declared.findings.Extent.TheVariants.{Lines, Units}
use Rattle.lsp_text.specs.declared.findings.Fit.{Fit}
use Rattle.lsp_text.specs.declared.findings.Fit.TheVariants.{Within, Past, Nowhere}
use Rattle.lsp_text.specs.declared.findings.PastEnd.{PastEnd}
use Rattle.lsp_text.specs.declared.findings.OtherLength.{OtherLength}
use Rattle.lsp_text.specs.declared.findings.Findings.{Findings}

-- ---- a position past the end

-- a column is greater than the units of its line, of which there are so many
abbrev pub extent_of : ℕ → ℕ → Option Extent
extent_of width column = if nat_lt width column then Some (Units width) else None

-- the line is not there, where there are so many; or else its column is too great
abbrev pub extent_at : Encoding → ℕ → ℕ → Option Line → Option Extent
extent_at enc count column None = Some (Lines count)
extent_at enc count column (Some l) = extent_of (units enc l.text) column

abbrev pub extent_in : Encoding → List Line → Position → Option Extent
extent_in enc ls p = extent_at enc (length ls) p.column (slice_get ls p.line)

-- how far a text goes, where a position lies past its end
abbrev pub text_extent : Encoding → List ℕ → Position → Option Extent
text_extent enc t p = extent_in enc (lines_of t) p

-- how a position fits that denotes a place
abbrev pub fit_by : Option Extent → Fit
fit_by None = Within
fit_by (Some e) = Past e

abbrev pub fit_at : Option ℕ → Option Extent → Fit
fit_at None e = Nowhere
fit_at (Some k) e = fit_by e

-- **how a position fits a text**
abbrev pub fit_in : Encoding → List ℕ → Position → Fit
fit_in enc t p = fit_at (place_of enc t p) (text_extent enc t p)

-- that position
abbrev pub past_by : Position → Option Extent → Option PastEnd
past_by p None = None
past_by p (Some e) = Some (record { position = p; extent = e })

-- the first position of a span that lies past the end: its start comes before its end
abbrev pub past_of : Encoding → List ℕ → Span → Option PastEnd
past_of enc t span =
    option_or (past_by span.first (text_extent enc t span.first))
    (past_by span.second (text_extent enc t span.second))

-- ---- a range's length

-- the characters between two places
abbrev pub between : Option ℕ → Option ℕ → List ℕ → List ℕ
between (Some a) (Some b) t = slice_range t a b
between _ _ t = []

-- the characters that a span holds
abbrev pub held_by : Encoding → List ℕ → Span → List ℕ
held_by enc t span = between (place_of enc t span.first) (place_of enc t span.second) t

-- a length, and how long a text is in each encoding
abbrev pub lengths_of : List ℕ → ℤ → OtherLength
lengths_of t sent =
    record { sent = sent; utf8 = units Utf8 t; utf16 = units Utf16 t; utf32 = units Utf32 t }

-- it is no length (LSP 3.17, `uinteger`), or that of so many units
abbrev pub is_no_other : ℤ → ℕ → Bool
is_no_other sent units = int_lt sent (pos 0) || int_eq sent (pos units)

-- the same where this is another length than that of the text
abbrev pub other_length : Encoding → List ℕ → ℤ → Option OtherLength
other_length enc t sent = if is_no_other sent (units enc t) then None else Some (lengths_of t sent)

abbrev pub length_of : Encoding → List ℕ → Option ℤ → Option OtherLength
length_of enc t sent = option_and_then (other_length enc t) sent

-- ---- changes

abbrev pub nothing : Findings
nothing = record { past_end = None; range_length = None }

-- what the replacement of a span finds, where this is said to be the length of what it replaces
abbrev pub found_in : Encoding → List ℕ → Span → Option ℤ → Findings
found_in enc t span sent =
    record { past_end = past_of enc t span; range_length = length_of enc (held_by enc t span) sent }

-- a change of the whole text finds nothing
abbrev pub found_of : Encoding → List ℕ → Option Span → Option ℤ → Findings
found_of enc t None sent = nothing
found_of enc t (Some span) sent = found_in enc t span sent

-- what the first of two finds, and else the second
abbrev pub noted : Findings → Findings → Findings
noted a b = record {
  past_end = option_or a.past_end b.past_end;
  range_length = option_or a.range_length b.range_length;
}

-- what a change finds in the text that others made
abbrev pub found_after : Encoding → Edit → Result (List ℕ) ℕ → Findings
found_after enc c (Err rule) = nothing
found_after enc c (Ok t) = found_of enc t c.span c.range_length

abbrev pub found_from : ℕ → Encoding → List ℕ → List Edit → List Edit → Findings
found_from limit enc t before [] = nothing
found_from limit enc t before (c ∷ after) =
    noted (found_after enc c (applied limit enc t before))
    (found_from limit enc t (before ++ c ∷ []) after)

-- **what changes of a text find first, each in the text that those before it make**
abbrev pub findings : ℕ → Encoding → List ℕ → List Edit → Findings
findings limit enc t cs = found_from limit enc t [] cs
