-- Whether a frame that is not whole can become one, and how the lines of its header part end.
use Rattle.std.specs.Prelude.{◌||◌, ◌&&◌, ◌==◌, ◌-◌, ℕ, nat_lt, List, [], ◌∷◌, length, take, drop}
use Rattle.std.specs.Prelude.{slice_get, Bool, true, false, Option, Some, None, not, map, codes}
use Rattle.std.specs.Prelude.{option_map, unwrap_or}
use Rattle.std.specs.Char.{to_ascii_lowercase}
use Rattle.std.specs.List.{list_all, position, prefix_len, slice_split}
use Rattle.std.specs.Str.{bytes_eq}
use Rattle.lsp_frame.specs.Header.{is_text, is_token}

-- ---- a line of a header part (RFC 9110, sections 5.5 and 5.6.2)

-- a colon and a value
abbrev pub is_value : List ℕ → Bool
is_value [] = false
is_value (b ∷ bytes) = b == 58 && list_all is_text bytes

-- a name and a value, of which more may follow
abbrev pub is_field : List ℕ → Bool
is_field line =
    nat_lt 0 (prefix_len is_token line) && is_value (drop (prefix_len is_token line) line)

abbrev pub is_cr : Option ℕ → Bool
is_cr None = false
is_cr (Some b) = b == 13

abbrev pub ends_with_cr : List ℕ → Bool
ends_with_cr line = is_cr (slice_get line (length line - 1))

-- up to that CR
abbrev pub before_cr : List ℕ → List ℕ
before_cr line = take (length line - 1) line

-- the line of a field, up to its LF
abbrev pub is_field_line : List ℕ → Bool
is_field_line line = ends_with_cr line && is_field (before_cr line)

-- the empty line, which ends a header part
abbrev pub is_blank_line : List ℕ → Bool
is_blank_line line = ends_with_cr line && length line == 1

-- the front of one of these: of its name, or of its value, or all but its LF
abbrev pub is_line_front : List ℕ → Bool
is_line_front line =
    list_all is_token line || (is_field line || (is_field_line line || is_blank_line line))

-- ---- lines

-- these lines begin a header part, as far as they show: the last one is not at its end
abbrev pub may_begin : List (List ℕ) → Bool
may_begin [] = true
may_begin (left ∷ []) = is_line_front left
may_begin (line ∷ next ∷ lines) =
    is_blank_line line || (is_field_line line && may_begin (next ∷ lines))

abbrev pub is_lf : ℕ → Bool
is_lf b = b == 10

abbrev pub are_header_lines : List ℕ → Bool
are_header_lines bytes = may_begin (slice_split is_lf bytes)

abbrev pub begins_with_cr : List ℕ → Bool
begins_with_cr bytes = is_cr (slice_get bytes 0)

-- **bytes that could follow may make a frame of these**: their lines are those of a header part, of
-- which the first is a field, since one at least gives the length of the content
abbrev pub may_go_on : List ℕ → Bool
may_go_on rest = not (begins_with_cr rest) && are_header_lines rest

-- ---- a line that ends with LF alone

abbrev pub has_own_name : List ℕ → Bool
has_own_name front = bytes_eq (map to_ascii_lowercase front) (codes "content-")

-- a field of LSP's own (LSP 3.17, "Base Protocol"), whose name is written in any case; it has no CR
abbrev pub is_own_field : List ℕ → Bool
is_own_field line = has_own_name (take 8 line) && is_field line

-- **the first line is such a field**, up to its LF
abbrev pub ends_with_lf : List ℕ → Bool
ends_with_lf bytes =
    unwrap_or (option_map (λ n. is_own_field (take n bytes)) (position is_lf bytes)) false
