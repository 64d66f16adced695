-- A loop over the characters of a text, and places as offsets in its bytes.
use Rattle.std.proofs.Common.{◌≡◌, ◌<◌, ◌≤◌, ◌+◌, ◌-◌, ℕ, true, cond, ltb, List, [], ◌∷◌, ◌++◌, length, get_or, take, drop, Option, Some, None, refl, sym, ap, subst, ◌∙◌, arith, length-append}
use Rattle.std.proofs.lemmas.List.{append-nil, at_drop_more, take-append-drop, take_at, drop_at, length-take-le, take_more}
use Rattle.std.proofs.lemmas.Bool.{and_parts, and_from, cond-true, cond-false, lt-ltb, le-ltb}
use Rattle.std.specs.Option.{option_map}
use Rattle.std.specs.Str.{chars, IsUtf8, IsCharBoundary}
use Rattle.std.specs.Char.{len_utf8}
use Rattle.std.proofs.lemmas.Str.{encodes-chars, scalars-chars, chars-encodes, encodes-append, IsCharBoundary-at_seam, length-encode, length-le-encodes}
use lib.Utf8.{encodes, encode, scalars, scalar}
use Rattle.lsp_types.specs.declared.position.Encoding.{Encoding}
use Rattle.lsp_types.specs.declared.position.Encoding.TheVariants.{Utf8}
use Rattle.lsp_text.specs.Places.{units, units_of_char, place_in_line}
use Rattle.lsp_text.specs.Offsets.{IsOffset}

pub units-append : (enc : Encoding) (xs ys : List ℕ) → units enc (xs ++ ys) ≡ units enc xs + units enc ys
units-append enc [] ys = omega arith
units-append enc (x ∷ xs) ys = omega (arith, units-append enc xs ys)

pub units-utf8 : (cs : List ℕ) → units Utf8 cs ≡ length (encodes cs)
units-utf8 [] = refl
units-utf8 (c ∷ cs) = omega (arith, units-utf8 cs, length-encode c, length-append (encode c) (encodes cs))

pub units-utf8_text : (bs : List ℕ) → IsUtf8 bs → units Utf8 (chars bs) ≡ length bs
units-utf8_text bs u = units-utf8 (chars bs) ∙ ap length (encodes-chars bs u)

pub length-chars_le : (bs : List ℕ) → IsUtf8 bs → length (chars bs) ≤ length bs
length-chars_le bs u = omega (arith, length-le-encodes (chars bs), ap length (encodes-chars bs u))

pub scalars-parts : (xs ys : List ℕ) → scalars (xs ++ ys) ≡ true → (scalars xs ≡ true) × (scalars ys ≡ true)
scalars-parts [] ys h = (refl, h)
scalars-parts (x ∷ xs) ys h =
    let p : (scalar x ≡ true) × (scalars (xs ++ ys) ≡ true) = and_parts (scalar x) (scalars (xs ++ ys)) h in
    let q : (scalars xs ≡ true) × (scalars ys ≡ true) = scalars-parts xs ys p.1 in
    (and_from (scalar x) (scalars xs) p.0 q.0, q.1)

-- the bytes of the first n characters are text, and so are the others
pub record IsSeam (bs : List ℕ) (n offset : ℕ) : Type 0 where
  pub boundary : IsCharBoundary bs offset
  pub front : chars (take offset bs) ≡ take n (chars bs)
  pub back : chars (drop offset bs) ≡ drop n (chars bs)

pub seam : (bs : List ℕ) (n offset : ℕ) → IsUtf8 bs → offset ≡ length (encodes (take n (chars bs))) → IsSeam bs n offset
seam bs n offset u at =
    let cs = chars bs in
    let xs = take n cs in
    let ys = drop n cs in
    let all : encodes xs ++ encodes ys ≡ bs = sym (encodes-append xs ys) ∙ ap encodes (take-append-drop n cs) ∙ encodes-chars bs u in
    let p : (scalars xs ≡ true) × (scalars ys ≡ true) = scalars-parts xs ys (ap scalars (take-append-drop n cs) ∙ scalars-chars bs u) in
    let front : take offset bs ≡ encodes xs = ap (take offset) (sym all) ∙ take_at (encodes xs) (encodes ys) offset (sym at) in
    let back : drop offset bs ≡ encodes ys = ap (drop offset) (sym all) ∙ drop_at (encodes xs) (encodes ys) offset (sym at) in
    record {
      boundary = subst (λ x. IsCharBoundary bs x) (sym at) (IsCharBoundary-at_seam bs (encodes xs) (encodes ys) (sym all) (ys, (p.1, refl)));
      front = ap chars front ∙ chars-encodes xs p.0;
      back = ap chars back ∙ chars-encodes ys p.1;
    }

-- a column's place in what is left of a line, after n characters and their units
pub place-drop : (enc : Encoding) (cs : List ℕ) (n c left : ℕ) → (n < length cs) × (c ≡ get_or cs n c) →
    place_in_line enc (drop n cs) left ≡ cond (ltb left 1) (Some 0) (cond (ltb left (units_of_char enc c)) None (option_map (λ k. k + 1) (place_in_line enc (drop (n + 1) cs) (left - units_of_char enc c))))
place-drop enc cs n c left h =
    at_drop_more (λ x. place_in_line enc x left) cs n c h.0
    ∙ ap (λ x. cond (ltb left 1) (Some 0) (cond (ltb left (units_of_char enc x)) None (option_map (λ k. k + 1) (place_in_line enc (drop (n + 1) cs) (left - units_of_char enc x))))) (sym h.1)

pub is_offset : (enc : Encoding) (bs : List ℕ) (column n offset : ℕ) → IsUtf8 bs → n ≤ length (chars bs) → offset ≡ length (encodes (take n (chars bs))) →
    place_in_line enc (chars bs) column ≡ Some n → IsOffset enc bs column offset
is_offset enc bs column n offset u le at is =
    let s : IsSeam bs n offset = seam bs n offset u at in
    record { boundary = s.boundary; place = is ∙ ap Some (sym (ap length s.front ∙ length-take-le n (chars bs) le)) }

pub encodes-take_more : (cs : List ℕ) (n c : ℕ) → (n < length cs) × (c ≡ get_or cs n c) → length (encodes (take (n + 1) cs)) ≡ length (encodes (take n cs)) + len_utf8 c
encodes-take_more cs n c h =
    ap (λ (x : List ℕ). length (encodes x)) (take_more cs n c h.0)
    ∙ ap length (encodes-append (take n cs) (get_or cs n c ∷ []))
    ∙ length-append (encodes (take n cs)) (encodes (get_or cs n c ∷ []))
    ∙ ap (λ x. length (encodes (take n cs)) + x)
    (ap length (append-nil (encode (get_or cs n c))) ∙ length-encode (get_or cs n c) ∙ ap len_utf8 (sym h.1))

pub length-take_le : (bs : List ℕ) (n : ℕ) → IsUtf8 bs → length (encodes (take n (chars bs))) ≤ length bs
length-take_le bs n u =
    let cs = chars bs in
    let all : encodes (take n cs) ++ encodes (drop n cs) ≡ bs = sym (encodes-append (take n cs) (drop n cs)) ∙ ap encodes (take-append-drop n cs) ∙ encodes-chars bs u in
    omega (arith, ap length all, length-append (encodes (take n cs)) (encodes (drop n cs)))

pub place_zero : (enc : Encoding) (cs : List ℕ) (n c left : ℕ) → (n < length cs) × (c ≡ get_or cs n c) → left ≡ 0 → place_in_line enc (drop n cs) left ≡ Some 0
place_zero enc cs n c left h z = place-drop enc cs n c left h ∙ cond-true _ _ _ (lt-ltb left 1 (omega arith))

pub place_inside : (enc : Encoding) (cs : List ℕ) (n c left : ℕ) → (n < length cs) × (c ≡ get_or cs n c) → 0 < left → left < units_of_char enc c →
    place_in_line enc (drop n cs) left ≡ None
place_inside enc cs n c left h some lt =
    place-drop enc cs n c left h ∙ cond-false _ _ _ (le-ltb left 1 (omega arith)) ∙ cond-true _ _ _ (lt-ltb left (units_of_char enc c) lt)

option_map-twice : (n : ℕ) (o : Option ℕ) → option_map (λ (k : ℕ). n + k) (option_map (λ (k : ℕ). k + 1) o) ≡ option_map (λ (k : ℕ). (n + 1) + k) o
option_map-twice n None = refl
option_map-twice n (Some k) = ap Some (omega arith)

pub place_past : (enc : Encoding) (cs : List ℕ) (n c left m rest : ℕ) → (n < length cs) × (c ≡ get_or cs n c) → m ≡ n + 1 → 0 < left → units_of_char enc c ≤ left →
    rest ≡ left - units_of_char enc c →
    option_map (λ (k : ℕ). n + k) (place_in_line enc (drop n cs) left) ≡ option_map (λ (k : ℕ). m + k) (place_in_line enc (drop m cs) rest)
place_past enc cs n c left m rest h e some le r =
    ap (option_map (λ (k : ℕ). n + k))
    (place-drop enc cs n c left h ∙ cond-false _ _ _ (le-ltb left 1 (omega arith)) ∙ cond-false _ _ _ (le-ltb left (units_of_char enc c) le))
    ∙ option_map-twice n (place_in_line enc (drop (n + 1) cs) (left - units_of_char enc c))
    ∙ rw (e, r) refl

-- texts of the same characters have the same bytes
pub chars_same : (bs ds : List ℕ) → IsUtf8 bs → IsUtf8 ds → chars bs ≡ chars ds → bs ≡ ds
chars_same bs ds u v e = sym (encodes-chars bs u) ∙ ap encodes e ∙ encodes-chars ds v
