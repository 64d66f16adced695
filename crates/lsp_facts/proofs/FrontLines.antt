-- Bytes, line by line, and whether their lines can be those of a header part.
use Rattle.std.proofs.Common.{◌≡◌, ◌≤◌, ◌<◌, ◌+◌, ◌&&◌, ◌||◌, ℕ, Bool, true, false, List, [], ◌∷◌}
use Rattle.std.proofs.Common.{length, take, drop, ap, ◌∙◌, refl, arith, All, Some, None}
use Rattle.std.specs.List.{position, position_or_len, slice_split}
use Rattle.std.proofs.lemmas.Bool.{and_left, or_from}
use Rattle.std.proofs.lemmas.Grind.{common_steps}
use Rattle.std.proofs.lemmas.List.Splits.{length-slice_split, slice_split_first, slice_split_none}
use Rattle.std.proofs.lemmas.List.Sums.{fails_before_first}
use Rattle.lsp_facts.specs.FrameFronts.{are_header_lines, is_blank_line, is_field_line, is_lf}
use Rattle.lsp_facts.specs.FrameFronts.{is_line_front, may_begin}

-- ---- the lines of bytes

first_line : (bytes : List ℕ) (n : ℕ) → Some n ≡ position is_lf bytes
    → slice_split is_lf bytes ≡ take n bytes ∷ slice_split is_lf (drop (n + 1) bytes)
first_line bytes n found =
    let at : position_or_len is_lf bytes ≡ n = grind (arith, common_steps) in
    let inside : position_or_len is_lf bytes < length bytes = grind (arith, common_steps) in
    slice_split_first is_lf bytes 0 inside
    ∙ ap (λ (k : ℕ). take k bytes ∷ slice_split is_lf (drop (k + 1) bytes)) at

one_line : (bytes : List ℕ) → None ≡ position is_lf bytes → slice_split is_lf bytes ≡ bytes ∷ []
one_line bytes none =
    let far : length bytes ≤ position_or_len is_lf bytes = grind (arith, common_steps) in
    let others : All (λ (b : ℕ). is_lf b ≡ false) bytes =
    λ k d l. fails_before_first is_lf bytes k d (omega arith)
    in
    slice_split_none is_lf bytes others

-- ---- what they begin

more : (line : List ℕ) (lines : List (List ℕ)) → 0 < length lines
    → may_begin (line ∷ lines) ≡ (is_blank_line line || (is_field_line line && may_begin lines))
more line [] some = absurd (omega arith)
more line (next ∷ lines) some = refl

with_line : (bytes : List ℕ) (n : ℕ) → Some n ≡ position is_lf bytes
    → are_header_lines bytes
    ≡ (is_blank_line (take n bytes)
    || (is_field_line (take n bytes) && are_header_lines (drop (n + 1) bytes)))
with_line bytes n found =
    let rest : List ℕ = drop (n + 1) bytes in
    let some : 0 < length (slice_split is_lf rest) = omega (arith, length-slice_split is_lf rest) in
    ap may_begin (first_line bytes n found) ∙ more (take n bytes) (slice_split is_lf rest) some

-- the header part ends
pub blank_next : (bytes : List ℕ) (n : ℕ) → Some n ≡ position is_lf bytes
    → is_blank_line (take n bytes) ≡ true → are_header_lines bytes ≡ true
blank_next bytes n found blank =
    with_line bytes n found
    ∙ ap (λ (b : Bool). b || (is_field_line (take n bytes) && are_header_lines (drop (n + 1) bytes)))
    blank

-- a line that is none of one
pub other_next : (bytes : List ℕ) (n : ℕ) → Some n ≡ position is_lf bytes
    → is_blank_line (take n bytes) ≡ false → is_field_line (take n bytes) ≡ false
    → are_header_lines bytes ≡ false
other_next bytes n found blank field =
    let tail : Bool = are_header_lines (drop (n + 1) bytes) in
    with_line bytes n found
    ∙ or_from (is_blank_line (take n bytes)) (is_field_line (take n bytes) && tail) blank
    (and_left (is_field_line (take n bytes)) tail field)

-- a field, and what follows
pub field_next : (bytes : List ℕ) (n : ℕ) → Some n ≡ position is_lf bytes
    → is_blank_line (take n bytes) ≡ false → is_field_line (take n bytes) ≡ true
    → are_header_lines bytes ≡ are_header_lines (drop (n + 1) bytes)
field_next bytes n found blank field =
    with_line bytes n found ∙ λ i. blank i || (field i && are_header_lines (drop (n + 1) bytes))

-- what is left is not at its end
pub left_over : (bytes : List ℕ) → None ≡ position is_lf bytes
    → are_header_lines bytes ≡ is_line_front bytes
left_over bytes none = ap may_begin (one_line bytes none)
