-- Units of a text, from the bytes of its characters.
use Rattle.std.proofs.Common.{◌≡◌, ◌<◌, ◌≤◌, ◌+◌, ◌-◌, ◌*◌, ℕ, Bool, cond, ltb, List, [], ◌∷◌, ◌++◌}
use Rattle.std.proofs.Common.{length, refl, sym, ap, ◌∙◌, arith, ◌/◌, ◌%◌, take, drop, take-add}
use Rattle.std.proofs.Common.{get_or}
use Rattle.std.specs.List.{count_by, sum_by}
use Rattle.std.proofs.lemmas.List.{take_more, get_or-take, get_or-drop, length-take-le}
use Rattle.std.specs.Str.{chars, IsUtf8}
use Rattle.std.proofs.lemmas.Str.{encodes-chars}
use Rattle.std.proofs.lemmas.Bool.{cond_both, ltb-true, ltb-false}
use Rattle.std.proofs.lemmas.Bool.Decides.{nat_tests}
use Rattle.std.proofs.lemmas.List.Sums.{sum_by-append, sum_by-cons, sum_by_push, count_by-le-length}
use lib.Utf8.{encodes, encode}
use Rattle.lsp_types.specs.declared.position.Encoding.{Encoding}
use Rattle.lsp_types.specs.declared.position.Encoding.TheVariants.{Utf8, Utf16, Utf32}
use Rattle.lsp_text.specs.Places.{units, units_of_char}
use Rattle.lsp_text.specs.Offsets.{byte_units}
use Rattle.lsp_text.proofs.Counting.{units-utf8_text}

-- ---- a character

brings : Encoding → List ℕ → ℕ
brings enc bs = sum_by (byte_units enc) bs

-- its bytes bring its units
record Brings (c : ℕ) (bs : List ℕ) : Type 0 where
  utf16 : brings Utf16 bs ≡ units_of_char Utf16 c
  utf32 : brings Utf32 bs ≡ 1

brings_one : (c : ℕ) → c < 128 → Brings c (c ∷ [])
unfolding brings
brings_one c lt = record { utf16 = grind (arith, nat_tests); utf32 = grind (arith, nat_tests) }

brings_two : (c a b : ℕ) → c < 65536 → 192 ≤ a → a < 240 → 128 ≤ b → b < 192 → Brings c (a ∷ b ∷ [])
unfolding brings
brings_two c a b h1 h2 h3 h4 h5 = record {
  utf16 = grind (arith, nat_tests);
  utf32 = grind (arith, nat_tests);
}

brings_three : (c a b d : ℕ) → c < 65536 → 192 ≤ a → a < 240 → 128 ≤ b → b < 192 → 128 ≤ d → d < 192
    → Brings c (a ∷ b ∷ d ∷ [])
unfolding brings
brings_three c a b d h1 h2 h3 h4 h5 h6 h7 = record {
  utf16 = grind (arith, nat_tests);
  utf32 = grind (arith, nat_tests);
}

brings_four : (c a b d e : ℕ) → 65536 ≤ c → 240 ≤ a → 128 ≤ b → b < 192 → 128 ≤ d → d < 192
    → 128 ≤ e → e < 192 → Brings c (a ∷ b ∷ d ∷ e ∷ [])
unfolding brings
brings_four c a b d e h1 h2 h3 h4 h5 h6 h7 h8 = record {
  utf16 = grind (arith, nat_tests);
  utf32 = grind (arith, nat_tests);
}

next_low : (n : ℕ) → (128 ≤ 128 + n % 64) × (128 + n % 64 < 192)
next_low n = (omega arith, omega arith)

brings_char : (c : ℕ) → Brings c (encode c)
unfolding encode
brings_char c =
    let P : List ℕ → Type 0 = Brings c in
    cond_both (ltb c 128) _ _ P (λ h. brings_one c (ltb-true c 128 h))
    (λ h. let a : 128 ≤ c = ltb-false c 128 h in
    cond_both (ltb c 2048) _ _ P
    (λ k. let b : c < 2048 = ltb-true c 2048 k in
    brings_two c _ _ (omega arith) (omega arith) (omega arith) (next_low c).0 (next_low c).1)
    (λ k. let b : 2048 ≤ c = ltb-false c 2048 k in
    cond_both (ltb c 65536) _ _ P
    (λ j. let d : c < 65536 = ltb-true c 65536 j in
    brings_three c _ _ _ d (omega arith) (omega arith) (next_low (c / 64)).0 (next_low (c / 64)).1
    (next_low c).0 (next_low c).1)
    (λ j. let d : 65536 ≤ c = ltb-false c 65536 j in
    brings_four c _ _ _ _ d (omega arith) (next_low (c / 4096)).0 (next_low (c / 4096)).1
    (next_low (c / 64)).0 (next_low (c / 64)).1 (next_low c).0 (next_low c).1)))

-- ---- a text

brings-append : (enc : Encoding) (xs ys : List ℕ)
    → brings enc (xs ++ ys) ≡ brings enc xs + brings enc ys
unfolding brings
brings-append enc xs ys = sum_by-append (byte_units enc) xs ys

brings_none : (enc : Encoding) → brings enc [] ≡ 0
unfolding brings
brings_none enc = refl

brings_utf16 : (cs : List ℕ) → brings Utf16 (encodes cs) ≡ units Utf16 cs
brings_utf16 [] = brings_none Utf16
brings_utf16 (c ∷ cs) = omega (
  arith,
  brings_utf16 cs,
  (brings_char c).utf16,
  brings-append Utf16 (encode c) (encodes cs),
)

brings_utf32 : (cs : List ℕ) → brings Utf32 (encodes cs) ≡ units Utf32 cs
brings_utf32 [] = brings_none Utf32
brings_utf32 (c ∷ cs) = omega (
  arith,
  brings_utf32 cs,
  (brings_char c).utf32,
  brings-append Utf32 (encode c) (encodes cs),
)

pub sum_utf8 : (xs : List ℕ) → sum_by (byte_units Utf8) xs ≡ length xs
sum_utf8 [] = refl
sum_utf8 (x ∷ xs) = omega (arith, sum_utf8 xs, sum_by-cons (byte_units Utf8) x xs)

-- the units of a text are what its bytes bring
pub units_by_bytes : (enc : Encoding) (bs : List ℕ) → IsUtf8 bs
    → units enc (chars bs) ≡ sum_by (byte_units enc) bs
unfolding brings
units_by_bytes Utf8 bs u = units-utf8_text bs u ∙ sym (sum_utf8 bs)
units_by_bytes Utf16 bs u = sym (brings_utf16 (chars bs)) ∙ ap (brings Utf16) (encodes-chars bs u)
units_by_bytes Utf32 bs u = sym (brings_utf32 (chars bs)) ∙ ap (brings Utf32) (encodes-chars bs u)

-- ---- sums over the first bytes

-- a block of bytes, and then one byte, after those summed
pub sum_next_block : (f : ℕ → ℕ) (bs : List ℕ) (at len n m : ℕ) → n ≡ sum_by f (take at bs)
    → m ≡ sum_by f (take len (drop at bs)) → n + m ≡ sum_by f (take (at + len) bs)
sum_next_block f bs at len n m e1 e2 =
    let parts : sum_by f (take (at + len) bs)
    ≡ sum_by f (take at bs) + sum_by f (take len (drop at bs)) =
    ap (sum_by f) (take-add at len bs) ∙ sum_by-append f (take at bs) (take len (drop at bs)) in
    omega arith

pub sum_block : (f : ℕ → ℕ) (bs : List ℕ) (at n m : ℕ) → n ≡ sum_by f (take at bs)
    → m ≡ sum_by f (take 32 (drop at bs)) → n + m ≡ sum_by f (take (at + 32) bs)
sum_block f bs at n m e1 e2 = sum_next_block f bs at 32 n m e1 e2

sum_next : (f : ℕ → ℕ) (bs : List ℕ) (k n : ℕ) → k < length bs → n ≡ sum_by f (take k bs)
    → n + f (get_or bs k 0) ≡ sum_by f (take (k + 1) bs)
sum_next f bs k n lt e =
    let x = get_or bs k 0 in
    let parts : sum_by f (take (k + 1) bs) ≡ sum_by f (take k bs) + f x =
    ap (sum_by f) (take_more bs k 0 lt) ∙ sum_by_push f (take k bs) x in
    omega arith

pub sum_byte : (f : ℕ → ℕ) (bs : List ℕ) (at k n m : ℕ) → at ≤ length bs → k < length bs - at
    → n ≡ sum_by f (take (at + k) bs) →
    m ≡ f (get_or (take (length bs - at) (drop at bs)) k 0)
    → n + m ≡ sum_by f (take (at + (k + 1)) bs)
sum_byte f bs at k n m le lt e is =
    let here : get_or (take (length bs - at) (drop at bs)) k 0 ≡ get_or bs (at + k) 0 =
    get_or-take (length bs - at) (drop at bs) k 0 lt ∙ get_or-drop at bs k 0 in
    let next : at + k + 1 ≡ at + (k + 1) = omega arith in
    ap (λ x. n + x) (is ∙ ap f here) ∙ sum_next f bs (at + k) n (omega arith) e
    ∙ ap (λ x. sum_by f (take x bs)) next

-- where a byte brings few units, these sums are small
pub block_few : (f : ℕ → ℕ) (bs : List ℕ) (at n m : ℕ) → ((v : List ℕ) → sum_by f v ≤ 2 * length v)
    → at + 32 ≤ length bs → n ≡ sum_by f (take at bs) → m ≡ sum_by f (take 32 (drop at bs))
    → n + m ≤ 2 * length bs
block_few f bs at n m few within e1 e2 =
    omega (
      arith,
      sum_block f bs at n m e1 e2,
      few (take (at + 32) bs),
      length-take-le (at + 32) bs within,
    )

pub byte_few : (f : ℕ → ℕ) (bs : List ℕ) (at k n m : ℕ) → ((v : List ℕ) → sum_by f v ≤ 2 * length v)
    → at ≤ length bs → k < length bs - at → n ≡ sum_by f (take (at + k) bs) →
    m ≡ f (get_or (take (length bs - at) (drop at bs)) k 0) → n + m ≤ 2 * length bs
byte_few f bs at k n m few le lt e is =
    omega (
      arith,
      sum_byte f bs at k n m le lt e is,
      few (take (at + (k + 1)) bs),
      length-take-le (at + (k + 1)) bs (omega arith),
    )

-- where all bytes are ASCII, each brings one unit
ascii_byte : (enc : Encoding) (x : ℕ) → x < 128 → byte_units enc x ≡ 1
ascii_byte Utf8 x lt = refl
ascii_byte _ x lt = grind (arith, nat_tests)

one_below : (x n m : ℕ) → cond (ltb x 128) 1 0 + n ≡ 1 + m → n ≤ m → (x < 128) × (n ≡ m)
one_below x n m e le = (grind (arith, nat_tests), grind (arith, nat_tests))

pub sum_ascii : (enc : Encoding) (xs : List ℕ) → count_by (λ x. ltb x 128) xs ≡ length xs
    → sum_by (byte_units enc) xs ≡ length xs
sum_ascii enc [] all = refl
sum_ascii enc (x ∷ xs) all =
    let test : ℕ → Bool = λ y. ltb y 128 in
    let first : cond (ltb x 128) 1 0 + count_by test xs ≡ 1 + length xs =
    omega (arith, all, sum_by-cons (λ y. cond (ltb y 128) 1 0) x xs) in
    let h = one_below x (count_by test xs) (length xs) first (count_by-le-length test xs) in
    omega (arith, sum_by-cons (byte_units enc) x xs, ascii_byte enc x h.0, sum_ascii enc xs h.1)
