-- Places of a line, from its units.
use Rattle.std.proofs.Common.{◌≡◌, ◌≤◌, ◌+◌, ◌-◌, ℕ, List, [], ◌∷◌, ◌++◌, length, take, drop, min, Option, Some, None, suc, refl, sym, ap, subst, ◌∙◌, inl, inr, ⊎_elim, arith, length-append}
use Rattle.std.proofs.lemmas.List.{take-append-drop, length-take-le, take_at, take_all}
use Rattle.std.proofs.lemmas.Bool.{cases_lt}
use Rattle.std.proofs.lemmas.Str.{IsUtf8-take, IsCharBoundary-end, IsCharBoundary-from_rest, chars-append}
use Rattle.std.specs.Option.{option_map}
use Rattle.std.specs.Str.{chars, IsUtf8, IsCharBoundary}
use Rattle.lsp_types.specs.declared.position.Encoding.{Encoding}
use Rattle.lsp_types.specs.declared.position.Encoding.TheVariants.{Utf8, Utf32}
use Rattle.lsp_text.specs.Places.{units, units_of_char, place_in_line}
use Rattle.lsp_text.specs.Offsets.{IsOffset, IsSkipped}
use Rattle.lsp_text.proofs.Counting.{units-utf8, units-utf8_text, seam}
use Rattle.lsp_text.proofs.Denoting.{IsBefore, past, place_in_line-complete, place_in_line-sound}
use Rattle.lsp_text.proofs.Positions.{take-add_here}
use Rattle.lsp_text.proofs.Splices.{chars-cut}

pub units-utf32 : (cs : List ℕ) → units Utf32 cs ≡ length cs
units-utf32 [] = refl
units-utf32 (c ∷ cs) = omega (arith, units-utf32 cs)

-- what stands before a boundary, and its bytes
pub record IsFront (bs : List ℕ) (offset : ℕ) : Type 0 where
  pub within : length (chars (take offset bs)) ≤ length (chars bs)
  pub front : take (length (chars (take offset bs))) (chars bs) ≡ chars (take offset bs)
  pub bytes : units Utf8 (chars (take offset bs)) ≡ offset

pub is_front : (bs : List ℕ) (offset : ℕ) → IsUtf8 bs → IsCharBoundary bs offset → IsFront bs offset
is_front bs offset u b =
    let cut = chars-cut bs offset u b in
    record {
      within = omega (arith, ap length cut, length-append (chars (take offset bs)) (chars (drop offset bs)));
      front =
          ap (take (length (chars (take offset bs)))) cut ∙ take_at (chars (take offset bs)) (chars (drop offset bs)) (length (chars (take offset bs))) refl;
      bytes = units-utf8_text (take offset bs) (IsUtf8-take bs offset u b) ∙ length-take-le offset bs b.0;
    }

-- under UTF-8 a column is the number of bytes before it
pub offset_at_byte : (bs : List ℕ) (column offset : ℕ) → IsUtf8 bs → offset ≡ min (length bs) column → IsCharBoundary bs offset → IsOffset Utf8 bs column offset
offset_at_byte bs column offset u is b =
    let f = is_front bs offset u b in
    let k = length (chars (take offset bs)) in
    let whole = units-utf8_text bs u in
    let cut = chars-cut bs offset u b in
    let before : IsBefore Utf8 (chars bs) column k =
    record {
      within = f.within;
      column_is =
          ⊎_elim
          (λ lt. inr (ap (units Utf8) f.front ∙ f.bytes ∙ (let e : offset ≡ column = omega arith in e)))
          (λ ge.
          let e : offset ≡ length bs = omega arith in
          inl (omega arith, ap (λ (x : List ℕ). length (chars x)) (take_all offset bs (omega arith))))
          (cases_lt column (length bs));
    }
    in record { boundary = b; place = place_in_line-complete Utf8 (chars bs) column k before }

none_or : (o : Option ℕ) → ((k : ℕ) → o ≡ Some k → ⊥) → o ≡ None
none_or None h = refl
none_or (Some k) h = absurd (h k refl)

pub no_place_at_byte : (bs : List ℕ) (column offset : ℕ) → IsUtf8 bs → offset ≡ min (length bs) column → (IsCharBoundary bs offset → ⊥) → place_in_line Utf8 (chars bs) column ≡ None
no_place_at_byte bs column offset u is apart =
    none_or (place_in_line Utf8 (chars bs) column) (λ k h.
    let b = place_in_line-sound Utf8 (chars bs) column k h in
    let whole = units-utf8_text bs u in
    let cs = chars bs in
    ⊎_elim
    (λ p.
    let q = p.0 in
    let e : length bs ≡ offset = omega arith in
    apart (subst (λ (x : ℕ). IsCharBoundary bs x) e (IsCharBoundary-end bs)))
    (λ p.
    let at = seam bs k column u (sym p ∙ units-utf8 (take k cs)) in
    let le = at.boundary.0 in
    let e : column ≡ offset = omega arith in
    apart (subst (λ (x : ℕ). IsCharBoundary bs x) e at.boundary))
    b.column_is)

option_map-zero : (o : Option ℕ) → o ≡ option_map (λ (k : ℕ). 0 + k) o
option_map-zero None = refl
option_map-zero (Some k) = ap Some (omega arith)

option_map-more : (n : ℕ) (o : Option ℕ) → option_map (λ (k : ℕ). k + 1) (option_map (λ (k : ℕ). n + k) o) ≡ option_map (λ (k : ℕ). suc n + k) o
option_map-more n None = refl
option_map-more n (Some k) = ap Some (omega arith)

-- a column that leaves some characters behind
pub place_in_line-append : (enc : Encoding) (xs ys : List ℕ) (column left : ℕ) → units enc xs + left ≡ column →
    place_in_line enc (xs ++ ys) column ≡ option_map (λ (k : ℕ). length xs + k) (place_in_line enc ys left)
place_in_line-append enc [] ys column left is =
    let e : column ≡ left = omega arith in
    ap (place_in_line enc ys) e ∙ option_map-zero (place_in_line enc ys left)
place_in_line-append enc (x ∷ xs) ys column left is =
    let rest : units enc xs + left ≡ column - units_of_char enc x = omega arith in
    past enc x (xs ++ ys) column (omega arith)
    ∙ ap (option_map (λ (k : ℕ). k + 1)) (place_in_line-append enc xs ys (column - units_of_char enc x) left rest)
    ∙ option_map-more (length xs) (place_in_line enc ys left)

-- whole blocks are left behind, and a column is looked for in the rest
pub place_past_skipped : (enc : Encoding) (line rest : List ℕ) (column bytes left : ℕ) → IsUtf8 line → IsSkipped enc line column bytes left → rest ≡ drop bytes line →
    place_in_line enc (chars line) column ≡ option_map (λ (k : ℕ). length (chars (take bytes line)) + k) (place_in_line enc (chars rest) left)
place_past_skipped enc line rest column bytes left u h is =
    ap (λ (x : List ℕ). place_in_line enc x column) (chars-cut line bytes u h.boundary)
    ∙ place_in_line-append enc (chars (take bytes line)) (chars (drop bytes line)) column left h.left_is
    ∙ ap (λ (x : List ℕ). option_map (λ (k : ℕ). length (chars (take bytes line)) + k) (place_in_line enc (chars x) left)) (sym is)

pub offset_past_skipped : (enc : Encoding) (line rest : List ℕ) (column bytes left offset : ℕ) → IsUtf8 line → IsSkipped enc line column bytes left → rest ≡ drop bytes line → IsOffset enc rest left offset →
    IsOffset enc line column (bytes + offset)
offset_past_skipped enc line rest column bytes left offset u h is o =
    let at : IsCharBoundary (drop bytes line) offset = subst (λ (x : List ℕ). IsCharBoundary x offset) is o.boundary in
    let xs = take offset rest in
    let len : length xs ≡ offset = length-take-le offset rest o.boundary.0 in
    let front : take (bytes + offset) line ≡ take bytes line ++ xs =
    take-add_here line bytes offset xs (drop offset rest) (sym is ∙ sym (take-append-drop offset rest)) len in
    record {
      boundary = IsCharBoundary-from_rest line bytes offset h.boundary.0 at;
      place =
          place_past_skipped enc line rest column bytes left u h is ∙ ap (option_map (λ (k : ℕ). length (chars (take bytes line)) + k)) o.place
          ∙ ap Some (sym (length-append (chars (take bytes line)) (chars xs)) ∙ ap length (sym (chars-append (take bytes line) xs (IsUtf8-take line bytes u h.boundary)) ∙ ap chars (sym front)));
    }
