-- Texts that are cut between characters.
use Rattle.std.proofs.Common.{◌≡◌, ℕ, ◌+◌, ◌-◌, ◌<◌, ◌≤◌, Bool, true, false, List, [], ◌∷◌, ◌++◌, length, take, drop}
use Rattle.std.proofs.Common.{refl, sym, ap, subst, ◌∙◌, Option, Some, None, append_assoc, append-nil, arith}
use Rattle.std.proofs.Common.{eqb-true, inl, inr, IsUtf8, map, max, suc, zero}
use Rattle.std.specs.Prelude.{◌==◌, MatchOption, chars, encode_utf8_all}
use Rattle.std.specs.Iterator.{SkipsThenYields, Yields}
use Rattle.std.specs.List.{flat_map}
use Rattle.std.specs.Str.{IsCharBoundary}
use Rattle.std.specs.Str.Iter.{chars_rest, chars_steps}
use Rattle.std.specs.declared.str.Chars.{Chars}
use Rattle.std.proofs.Math.Seq.{drop-append_seam, take-append_seam}
use Rattle.std.proofs.lemmas.Bool.{and_parts, cases_eq, false≢true}
use Rattle.std.proofs.lemmas.List.{drop_all, length-append, length-drop, take_all}
use Rattle.std.proofs.lemmas.Str.{IsCharBoundary-at_seam, IsUtf8-append, IsUtf8-encode, IsUtf8-nil}
use Rattle.std.proofs.lemmas.Str.{IsUtf8-past_char, chars-append, chars-encodes, chars-nil}
use Rattle.std.proofs.lemmas.Str.{chars_past_char, encodes-chars, scalars-chars}
use lib.Utf8.{encode, scalar, scalars}
use Rattle.lsp_extract.specs.Normal.{cut}
use Rattle.lsp_extract.proofs.Forming.Pieces.{cut_none, cut_some}
use Rattle.lsp_replay.specs.Common.{chunk, Side, spelling}
use Rattle.lsp_redact.specs.Records.{pieces}

-- a text is in two parts, and these are the characters of the first
pub record IsInTwo (text front rest cs : List ℕ) : Type 0 where
  pub whole : text ≡ front ++ rest
  pub front_utf8 : IsUtf8 front
  pub rest_utf8 : IsUtf8 rest
  pub are : chars front ≡ cs

in_two_at_first : (text : List ℕ) → IsUtf8 text → IsInTwo text [] text []
in_two_at_first text utf8 = record {
  whole = refl;
  front_utf8 = IsUtf8-nil;
  rest_utf8 = utf8;
  are = chars-nil;
}

-- the first character of the second part goes to the first
one_on : (text front rest cs : List ℕ) (c : ℕ) (later : List ℕ) → IsInTwo text front rest cs
    → rest ≡ encode c ++ later → IsInTwo text (front ++ encode c) later (cs ++ c ∷ [])
one_on text front rest cs c later h is =
    let first : chars rest ≡ c ∷ chars later = chars_past_char rest later c h.rest_utf8 is in
    let all : scalars (c ∷ chars later) ≡ true =
    subst (λ (xs : List ℕ). scalars xs ≡ true) first (scalars-chars rest h.rest_utf8) in
    let own : scalar c ≡ true = (and_parts _ _ all).0 in
    let one : scalars (c ∷ []) ≡ true = rw own refl in
    record {
      whole = h.whole ∙ ap (λ (xs : List ℕ). front ++ xs) is
          ∙ sym (append_assoc front (encode c) later);
      front_utf8 = IsUtf8-append front (encode c) h.front_utf8 (IsUtf8-encode c own);
      rest_utf8 = IsUtf8-past_char rest later c h.rest_utf8 is;
      are = chars-append front (encode c) h.front_utf8
          ∙ ap (λ (xs : List ℕ). xs ++ chars (encode c)) h.are
          ∙ ap (λ (xs : List ℕ). cs ++ xs)
          (ap chars (sym (append-nil (encode c))) ∙ chars-encodes (c ∷ []) one);
    }

-- those that an iterator gives go on
gone_on : (text front cs xs : List ℕ) (s t : Chars) → IsInTwo text front (chars_rest s) cs
    → Yields chars_steps s xs t → (more : List ℕ) × IsInTwo text more (chars_rest t) (cs ++ xs)
gone_on text front cs [] s t h y = (
  front,
  subst (λ (u : Chars). IsInTwo text front (chars_rest u) (cs ++ [])) y
      (subst (IsInTwo text front (chars_rest s)) (sym (append-nil cs)) h),
)
gone_on text front cs (x ∷ xs) s t h y =
    let one = one_on text front (chars_rest s) cs x (chars_rest y.0) h y.1.0 in
    let rest = gone_on text (front ++ encode x) (cs ++ x ∷ []) xs y.0 t one y.2 in
    (rest.0, subst (IsInTwo text rest.0 (chars_rest t)) (append_assoc cs (x ∷ []) xs) rest.1)

-- the first part has this many characters, or all of them
pub record IsFront (text : List ℕ) (most at : ℕ) : Type 0 where
  pub boundary : IsCharBoundary text at
  pub front : chars (take at text) ≡ take most (chars text)
  pub back : chars (drop at text) ≡ drop most (chars text)
  pub front_utf8 : IsUtf8 (take at text)
  pub back_utf8 : IsUtf8 (drop at text)
  pub within : at ≤ length text
  pub some : 0 < length text → 0 < at

nothing_left : (xs : List ℕ) → length xs ≡ 0 → xs ≡ []
nothing_left [] h = refl
nothing_left (x ∷ xs) h = absurd (omega (arith, h))

no_characters : (front cs : List ℕ) → chars front ≡ cs → length front ≡ 0 → length cs ≡ 0
no_characters front cs are h = ap length (sym are ∙ ap chars (nothing_left front h) ∙ chars-nil)

front_is : (text front rest cs : List ℕ) (most : ℕ) → 0 < most → IsInTwo text front rest cs
    → length cs ≤ most → (length cs < most → rest ≡ []) → IsFront text most (length front)
front_is text front rest cs most some h le full =
    let all : chars text ≡ cs ++ chars rest =
    ap chars h.whole ∙ chars-append front rest h.front_utf8
    ∙ ap (λ (xs : List ℕ). xs ++ chars rest) h.are in
    record {
      boundary = IsCharBoundary-at_seam text front rest h.whole h.rest_utf8;
      front = ap (λ (xs : List ℕ). chars (take (length front) xs)) h.whole
          ∙ ap chars (take-append_seam front rest) ∙ h.are ∙ sym (taken all);
      back = ap (λ (xs : List ℕ). chars (drop (length front) xs)) h.whole
          ∙ ap chars (drop-append_seam front rest) ∙ sym (dropped all);
      front_utf8 = subst IsUtf8 (sym (ap (take (length front)) h.whole ∙ take-append_seam front rest))
          h.front_utf8;
      back_utf8 = subst IsUtf8 (sym (ap (drop (length front)) h.whole ∙ drop-append_seam front rest))
          h.rest_utf8;
      within = omega (arith, ap length h.whole, length-append front rest);
      some = λ long. positive long (length front) refl;
    }
  where
    none : length cs < most → chars rest ≡ []
    none less = ap chars (full less) ∙ chars-nil

    taken : chars text ≡ cs ++ chars rest → take most (chars text) ≡ cs
    taken all =
        elim (cases_eq (length cs) most) [
          | inl same ↦ ap (take most) all
              ∙ ap (λ (n : ℕ). take n (cs ++ chars rest)) (sym same)
              ∙ take-append_seam cs (chars rest)
          | inr other ↦
              let less : length cs < most = omega (arith, le, other) in
              ap (take most) (all ∙ ap (λ (xs : List ℕ). cs ++ xs) (none less) ∙ append-nil cs)
              ∙ take_all most cs le
        ]

    dropped : chars text ≡ cs ++ chars rest → drop most (chars text) ≡ chars rest
    dropped all =
        elim (cases_eq (length cs) most) [
          | inl same ↦ ap (drop most) all
              ∙ ap (λ (n : ℕ). drop n (cs ++ chars rest)) (sym same)
              ∙ drop-append_seam cs (chars rest)
          | inr other ↦
              let less : length cs < most = omega (arith, le, other) in
              ap (drop most) (all ∙ ap (λ (xs : List ℕ). cs ++ xs) (none less) ∙ append-nil cs)
              ∙ drop_all most cs le ∙ sym (none less)
        ]

    positive : 0 < length text → (n : ℕ) → length front ≡ n → 0 < length front
    positive long zero is =
        let less : length cs < most = omega (arith, some, no_characters front cs h.are is) in
        let empty : length text ≡ 0 =
        ap length (h.whole ∙ ap (λ (xs : List ℕ). front ++ xs) (full less) ∙ append-nil front) ∙ is in
        absurd (omega (arith, long, empty))
    positive long (suc n) is = omega (arith, is)

-- **where an iterator stands once it passed over one character less, and gave one**
pub front_by : (text : List ℕ) (s u : Chars) (most : ℕ) (r : Option ℕ) → IsUtf8 text → 0 < most
    → chars_rest s ≡ text → SkipsThenYields chars_steps s (most - 1) r u
    → IsFront text most (length text - length (chars_rest u))
front_by text s u most r utf8 some starts ran =
    by_last r ran.1.2 ran.2
  where
    xs : List ℕ
    xs = ran.0

    middle : (front : List ℕ) × IsInTwo text front (chars_rest ran.1.0) xs
    middle = gone_on text [] [] xs s ran.1.0
        (subst (λ (rest : List ℕ). IsInTwo text [] rest []) (sym starts) (in_two_at_first text utf8))
        ran.1.1

    at : (front rest : List ℕ) → text ≡ front ++ rest → length front ≡ length text - length rest
    at front rest whole = omega (arith, ap length whole, length-append front rest)

    by_last : (o : Option ℕ) → chars_steps ran.1.0 o u
        → MatchOption o (length xs ≤ most - 1) (λ _. length xs ≡ most - 1)
        → IsFront text most (length text - length (chars_rest u))
    by_last None step passed =
        let rest : chars_rest u ≡ [] =
        ap chars_rest step.0.1 ∙ nothing_left (chars_rest ran.1.0) step.0.0 in
        let whole : IsInTwo text middle.0 (chars_rest u) xs =
        subst (λ (t : Chars). IsInTwo text middle.0 (chars_rest t) xs) (sym step.0.1) middle.1 in
        subst (IsFront text most) (at middle.0 (chars_rest u) whole.whole)
        (front_is text middle.0 (chars_rest u) xs most some whole (omega (arith, passed, some))
        (λ less. rest))
    by_last (Some c) step passed =
        let whole : IsInTwo text (middle.0 ++ encode c) (chars_rest u) (xs ++ c ∷ []) =
        one_on text middle.0 (chars_rest ran.1.0) xs c (chars_rest u) middle.1 step.0 in
        let size : length (xs ++ c ∷ []) ≡ most =
        omega (arith, length-append xs (c ∷ []), passed, some) in
        subst (IsFront text most) (at (middle.0 ++ encode c) (chars_rest u) whole.whole)
        (front_is text (middle.0 ++ encode c) (chars_rest u) (xs ++ c ∷ []) most some whole
        (omega (arith, size)) (λ less. absurd (omega (arith, size, less))))

-- ---- records of pieces

-- the first piece, and those of the rest
pub pieces_some : (most : ℕ) (text front back : List ℕ) → 0 < most → 0 < length (chars text)
    → IsUtf8 front → chars front ≡ take most (chars text) → chars back ≡ drop most (chars text)
    → pieces most text ≡ front ∷ pieces most back
pieces_some most text front back full some utf8 first rest =
    ap (map encode_utf8_all) (cut_some most (chars text) full some)
    ∙ ap (λ (t : List ℕ). encode_utf8_all t ∷ map encode_utf8_all (cut most (drop most (chars text))))
    (sym first)
    ∙ ap (λ (t : List ℕ). t ∷ map encode_utf8_all (cut most (drop most (chars text))))
    (encodes-chars front utf8)
    ∙ ap (λ (t : List ℕ). front ∷ map encode_utf8_all (cut most t)) (sym rest)

pub pieces_none : (most : ℕ) → pieces most [] ≡ []
pieces_none most = ap (λ (t : List ℕ). map encode_utf8_all (cut most t)) chars-nil
    ∙ ap (map encode_utf8_all) (cut_none most)

-- a record more is spelled
pub spelled_on : (side : Side) (most : ℕ) (text front back written : List ℕ)
    → pieces most text ≡ front ∷ pieces most back
    → (written ++ spelling (chunk side front)) ++ flat_map spelling (map (chunk side) (pieces most back))
    ≡ written ++ flat_map spelling (map (chunk side) (pieces most text))
spelled_on side most text front back written is =
    append_assoc written (spelling (chunk side front))
    (flat_map spelling (map (chunk side) (pieces most back)))
    ∙ ap (λ (ps : List (List ℕ)). written ++ flat_map spelling (map (chunk side) ps)) (sym is)

-- ---- as the code cuts them

-- where an iterator stands that passed over so many characters, and gave one
pub front_at : (text : List ℕ) (s u : Chars) (most : ℕ) (r : Option ℕ) → IsUtf8 text
    → chars_rest s ≡ text → SkipsThenYields chars_steps s (most - 1) r u
    → IsFront text (max most 1) (length text - length (chars_rest u))
front_at text s u most r utf8 starts ran =
    let one : 0 < max most 1 = omega arith in
    let same : most - 1 ≡ max most 1 - 1 = omega arith in
    front_by text s u (max most 1) r utf8 one starts
    (subst (λ (k : ℕ). SkipsThenYields chars_steps s k r u) same ran)

yielded_within : (xs : List ℕ) (s t : Chars) → Yields chars_steps s xs t
    → length (chars_rest t) ≤ length (chars_rest s)
yielded_within [] s t y = omega (arith, ap (λ (u : Chars). length (chars_rest u)) y)
yielded_within (x ∷ xs) s t y = omega (
  arith,
  ap length y.1.0,
  length-append (encode x) (chars_rest y.0),
  yielded_within xs y.0 t y.2,
)

-- what is left is no longer than the text
pub rest_within : (text : List ℕ) (s u : Chars) (n : ℕ) (r : Option ℕ) → chars_rest s ≡ text
    → SkipsThenYields chars_steps s n r u → length (chars_rest u) ≤ length text
rest_within text s u n r starts ran = by_last r ran.1.2
  where
    passed : length (chars_rest ran.1.0) ≤ length (chars_rest s)
    passed = yielded_within ran.0 s ran.1.0 ran.1.1

    by_last : (o : Option ℕ) → chars_steps ran.1.0 o u → length (chars_rest u) ≤ length text
    by_last None step =
        omega (arith, passed, ap length starts, ap (λ (t : Chars). length (chars_rest t)) step.0.1)
    by_last (Some c) step = omega (
      arith,
      passed,
      ap length starts,
      ap length step.0,
      length-append (encode c) (chars_rest u),
    )

-- the two parts of a text that is cut there
pub cut_at : (text : List ℕ) (most at : ℕ) → IsFront text most at → (front back : List ℕ)
    → front ≡ take at text → back ≡ drop at text
    → (chars front ≡ take most (chars text)) × (chars back ≡ drop most (chars text))
    × (IsUtf8 front × IsUtf8 back) × (0 < length text → length back < length text)
cut_at text most at is front back first last = (
  ap chars first ∙ is.front,
  ap chars last ∙ is.back,
  (subst IsUtf8 (sym first) is.front_utf8, subst IsUtf8 (sym last) is.back_utf8),
  λ long. omega (arith, long, is.some long, is.within, ap length last, length-drop at text),
)

-- the last piece is cut off
pub pieces_end : (side : Side) (most : ℕ) (written all : List ℕ) (rest : List ℕ) → rest ≡ []
    → written ++ flat_map spelling (map (chunk side) (pieces most rest)) ≡ all → written ≡ all
pieces_end side most written all rest none is =
    sym (append-nil written)
    ∙ ap (λ (ps : List (List ℕ)). written ++ flat_map spelling (map (chunk side) ps))
    (sym (ap (pieces most) none ∙ pieces_none most))
    ∙ is

-- one more is
pub pieces_on : (side : Side) (most : ℕ) (rest front back old new all : List ℕ) → 1 ≤ most
    → 1 ≤ length (chars rest) → IsUtf8 front → chars front ≡ take most (chars rest)
    → chars back ≡ drop most (chars rest) → new ≡ old ++ spelling (chunk side front)
    → old ++ flat_map spelling (map (chunk side) (pieces most rest)) ≡ all
    → new ++ flat_map spelling (map (chunk side) (pieces most back)) ≡ all
pieces_on side most rest front back old new all full some utf8 first last is before =
    ap (λ (w : List ℕ). w ++ flat_map spelling (map (chunk side) (pieces most back))) is
    ∙ spelled_on side most rest front back old
    (pieces_some most rest front back full some utf8 first last)
    ∙ before

-- a text that is not empty has a character
pub some_character : (text : List ℕ) → IsUtf8 text → (b : Bool) → b ≡ (length text == 0)
    → b ≡ false → 1 ≤ length (chars text)
some_character text utf8 b is h = by_characters (chars text) (encodes-chars text utf8)
  where
    by_characters : (cs : List ℕ) → encode_utf8_all cs ≡ text → 1 ≤ length cs
    by_characters [] e =
        let empty : length text ≡ 0 = ap length (sym e) in
        absurd (false≢true (sym h ∙ is ∙ ap (λ (n : ℕ). n == 0) empty))
    by_characters (x ∷ cs) e = omega arith

pub no_characters_left : (text : List ℕ) (b : Bool) → b ≡ (length text == 0) → b ≡ true → text ≡ []
no_characters_left [] b is h = refl
no_characters_left (x ∷ xs) b is h =
    let none : length (x ∷ xs) ≡ 0 = eqb-true (length (x ∷ xs)) 0 (sym is ∙ h) in
    absurd (omega (arith, none))
