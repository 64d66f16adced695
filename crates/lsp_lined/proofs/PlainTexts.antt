-- Units of texts, and of those whose characters have one byte each.
use Rattle.std.proofs.Common.{◌≡◌, ◌<◌, ◌≤◌, ℕ, List, [], ◌∷◌, ◌++◌, length, take, drop, min, Some, refl, sym, ap, subst, ◌∙◌, inl, inr, ⊎_elim, arith, length-append}
use Rattle.std.proofs.lemmas.List.{take-append-drop, length-take-le, take_all}
use Rattle.std.proofs.lemmas.Bool.{cases_lt}
use Rattle.std.proofs.lemmas.Bool.Decides.{nat_tests}
use Rattle.std.proofs.lemmas.Str.{len_utf8_bounds, chars-append, IsUtf8-nil, IsUtf8-take, IsUtf8-drop, IsCharBoundary-end}
use Rattle.std.specs.Str.{chars, IsUtf8, IsCharBoundary}
use lib.Utf8.{encodes}
use Rattle.lsp_types.specs.declared.position.Encoding.{Encoding}
use Rattle.lsp_types.specs.declared.position.Encoding.TheVariants.{Utf8, Utf16, Utf32}
use Rattle.lsp_text.specs.Places.{units, units_of_char}
use Rattle.lsp_text.specs.Offsets.{IsOffset}
use Rattle.lsp_text.proofs.Counting.{units-append, units-utf8, units-utf8_text, length-chars_le, is_offset}
use Rattle.lsp_text.proofs.Denoting.{place_in_line-complete}

length_le_units : (cs : List ℕ) → length cs ≤ units Utf8 cs
length_le_units [] = omega arith
length_le_units (c ∷ cs) = omega (arith, length_le_units cs, (len_utf8_bounds c).0)

-- a text has no more units than bytes
char_units : (enc : Encoding) (c : ℕ) → units_of_char enc c ≤ units_of_char Utf8 c
char_units Utf8 c = omega arith
char_units Utf16 c = grind (arith, nat_tests)
char_units Utf32 c = (len_utf8_bounds c).0

pub units_le_bytes : (enc : Encoding) (cs : List ℕ) → units enc cs ≤ units Utf8 cs
units_le_bytes enc [] = omega arith
units_le_bytes enc (c ∷ cs) = omega (arith, units_le_bytes enc cs, char_units enc c)

-- a character of one byte has one unit
one_unit : (enc : Encoding) (c : ℕ) → units_of_char Utf8 c ≡ 1 → units_of_char enc c ≡ 1
one_unit Utf8 c h = h
one_unit Utf16 c h = grind (arith, nat_tests)
one_unit Utf32 c h = refl

-- characters of one byte each have one unit each
pub units-plain : (enc : Encoding) (cs : List ℕ) → units Utf8 cs ≡ length cs → units enc cs ≡ length cs
units-plain enc [] h = refl
units-plain enc (c ∷ cs) h =
    let least = length_le_units cs in
    let bytes = (len_utf8_bounds c).0 in
    let first : units_of_char Utf8 c ≡ 1 = omega arith in
    let rest : units Utf8 cs ≡ length cs = omega arith in
    omega (arith, one_unit enc c first, units-plain enc cs rest)

plain_take : (cs : List ℕ) (k : ℕ) → units Utf8 cs ≡ length cs → units Utf8 (take k cs) ≡ length (take k cs)
plain_take cs k h =
    let all = take-append-drop k cs in
    omega (
      arith,
      ap (units Utf8) all,
      ap length all,
      units-append Utf8 (take k cs) (drop k cs),
      length-append (take k cs) (drop k cs),
      length_le_units (take k cs),
      length_le_units (drop k cs),
    )

-- a column past the line is its end
pub offset_at_end : (enc : Encoding) (bs : List ℕ) (column width : ℕ) → width ≡ units enc (chars bs) → width ≤ column → IsOffset enc bs column (length bs)
offset_at_end enc bs column width is le =
    record {
      boundary = IsCharBoundary-end bs;
      place =
          place_in_line-complete enc (chars bs) column (length (chars bs)) (record { within = omega arith; column_is = inl (omega arith, refl) })
          ∙ ap (λ (x : List ℕ). Some (length (chars x))) (sym (take_all (length bs) bs (omega arith)));
    }

-- a text is plain: so many characters as bytes
pub plain_units : (enc : Encoding) (bs : List ℕ) → IsUtf8 bs → length (chars bs) ≡ length bs → units enc (chars bs) ≡ length bs
plain_units enc bs u same = units-plain enc (chars bs) (units-utf8_text bs u ∙ sym same) ∙ same

-- a column in it counts bytes
pub offset_in_plain : (enc : Encoding) (bs : List ℕ) (column : ℕ) → IsUtf8 bs → length (chars bs) ≡ length bs → column ≤ length bs → IsOffset enc bs column column
offset_in_plain enc bs column u same le =
    let cs = chars bs in
    let plain : units Utf8 cs ≡ length cs = units-utf8_text bs u ∙ sym same in
    let within : column ≤ length cs = omega arith in
    let len = length-take-le column cs within in
    let front = plain_take cs column plain in
    let before : units enc (take column cs) ≡ column = units-plain enc (take column cs) front ∙ len in
    let bytes : column ≡ length (encodes (take column cs)) = omega (arith, units-utf8 (take column cs)) in
    is_offset enc bs column column column u within bytes (place_in_line-complete enc cs column column (record { within = within; column_is = inr before }))

pub plain_offset : (enc : Encoding) (bs : List ℕ) (column offset : ℕ) → IsUtf8 bs → length (chars bs) ≡ length bs → offset ≡ min (length bs) column → IsOffset enc bs column offset
plain_offset enc bs column offset u same is =
    ⊎_elim
    (λ (lt : column < length bs).
    let e : column ≡ offset = omega arith in
    subst (λ (x : ℕ). IsOffset enc bs column x) e (offset_in_plain enc bs column u same (omega arith)))
    (λ (ge : length bs ≤ column).
    let e : length bs ≡ offset = omega arith in
    subst (λ (x : ℕ). IsOffset enc bs column x) e (offset_at_end enc bs column (length bs) (sym (plain_units enc bs u same)) ge))
    (cases_lt column (length bs))

-- the parts of a plain text are plain
pub plain_part : (a x b : List ℕ) → IsUtf8 a → IsUtf8 x → IsUtf8 b → length (chars (a ++ (x ++ b))) ≡ length (a ++ (x ++ b)) → length (chars x) ≡ length x
plain_part a x b ua ux ub h =
    omega (
      arith,
      h,
      ap length (chars-append a (x ++ b) ua),
      ap length (chars-append x b ux),
      length-append (chars a) (chars (x ++ b)),
      length-append (chars x) (chars b),
      length-append a (x ++ b),
      length-append x b,
      length-chars_le a ua,
      length-chars_le x ux,
      length-chars_le b ub,
    )

-- the first bytes of a plain text have as many units
pub plain_front : (enc : Encoding) (bs : List ℕ) (offset : ℕ) → IsUtf8 bs → length (chars bs) ≡ length bs → IsCharBoundary bs offset → units enc (chars (take offset bs)) ≡ offset
plain_front enc bs offset u same b =
    let front = IsUtf8-take bs offset u b in
    let back = IsUtf8-drop bs offset u b in
    let whole : [] ++ (take offset bs ++ drop offset bs) ≡ bs = take-append-drop offset bs in
    let plain = plain_part [] (take offset bs) (drop offset bs) IsUtf8-nil front back (ap (λ (x : List ℕ). length (chars x)) whole ∙ same ∙ ap length (sym whole)) in
    plain_units enc (take offset bs) front plain ∙ length-take-le offset bs b.0
