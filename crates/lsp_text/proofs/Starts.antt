-- Which bytes of a vector begin a character, lane by lane.
use Rattle.std.proofs.Common.{◌≡◌, ◌≤◌, ◌+◌, ◌*◌, ℕ, Bool, true, false, cond, ltb, leb, ◌||◌, List}
use Rattle.std.proofs.Common.{[], ◌∷◌, length, map, replicate, refl, sym, ap, ap₂, ◌∙◌, arith, Fits}
use Rattle.std.proofs.Common.{w8}
use Rattle.std.proofs.lemmas.Bool.Decides.{nat_tests}
use Rattle.std.proofs.lemmas.List.Sums.{sum_by-cons}
use Rattle.std.proofs.lemmas.Simd.{zip2_splat, zip2_splat_left, fold-sum, sum-zip2, sum_fits}
use Rattle.std.proofs.lemmas.List.{length-map}
use Rattle.std.specs.Int.Bits.{bit_or}
use Rattle.std.specs.List.{sum_by}
use Rattle.std.specs.Simd.Lanes.{zip2, top, sel_l, sum_l, fold_l, Each2, Steps}
use Rattle.lsp_types.specs.declared.position.Encoding.TheVariants.{Utf16, Utf32}
use Rattle.lsp_text.specs.Offsets.{byte_units}

-- the lanes that a comparison answers
abbrev below : ℕ → ℕ → ℕ
below a b = cond (ltb a b) 255 0

abbrev at_most : ℕ → ℕ → ℕ
at_most a b = cond (leb a b) 255 0

-- 1 for the first byte of a character of four bytes
abbrev of_four : ℕ → ℕ
of_four x = cond (leb 240 x) 1 0

either : (a b : Bool) → top 7 (bit_or (cond a 255 0) (cond b 255 0)) ≡ (a || b)
either true true = refl
either true false = refl
either false true = refl
either false false = refl

one : (a : Bool) → top 7 (cond a 255 0) ≡ a
one true = refl
one false = refl

start_byte : (x : ℕ) → cond (ltb x 128 || leb 192 x) 1 0 ≡ byte_units Utf32 x
start_byte x = grind (arith, nat_tests)

utf16_byte : (x : ℕ) → byte_units Utf32 x + of_four x ≡ byte_units Utf16 x
utf16_byte x = grind (arith, nat_tests)

utf16_small : (x : ℕ) → byte_units Utf16 x ≤ 2
utf16_small x = grind (arith, nat_tests)

utf32_small : (x : ℕ) → byte_units Utf32 x ≤ 2
utf32_small x = grind (arith, nat_tests)

start_lanes : (v : List ℕ)
    → sel_l (map (top 7) (zip2 bit_or (map (λ x. below x 128) v) (map (λ x. at_most 192 x) v)))
    (replicate (length v) 1) (replicate (length v) 0)
    ≡ map (byte_units Utf32) v
start_lanes [] = refl
start_lanes (x ∷ xs) =
    ap₂ (λ b bs. b ∷ bs) (ap (λ (b : Bool). cond b 1 0) (either (ltb x 128) (leb 192 x))
    ∙ start_byte x) (start_lanes xs)

four_lanes : (v : List ℕ)
    → sel_l (map (top 7) (map (λ x. at_most 240 x) v)) (replicate (length v) 1)
    (replicate (length v) 0) ≡ map of_four v
four_lanes [] = refl
four_lanes (x ∷ xs) = ap₂ (λ b bs. b ∷ bs) (ap (λ (b : Bool). cond b 1 0) (one (leb 240 x)))
    (four_lanes xs)

pub started : (v : List ℕ) → length v ≡ 32
    → sel_l (map (top 7) (zip2 bit_or (zip2 below v (replicate 32 128))
    (zip2 at_most (replicate 32 192) v))) (replicate 32 1) (replicate 32 0)
    ≡ map (byte_units Utf32) v
started v long =
    let tests = ap₂ (zip2 bit_or) (zip2_splat below v 32 128 long)
    (zip2_splat_left at_most 192 32 v long) in
    ap (λ ms. sel_l (map (top 7) ms) (replicate 32 1) (replicate 32 0)) tests
    ∙ ap (λ n. sel_l (map (top 7) (zip2 bit_or (map (λ x. below x 128) v)
    (map (λ x. at_most 192 x) v))) (replicate n 1) (replicate n 0)) (sym long)
    ∙ start_lanes v

fours : (v : List ℕ) → length v ≡ 32
    → sel_l (map (top 7) (zip2 at_most (replicate 32 240) v)) (replicate 32 1) (replicate 32 0)
    ≡ map of_four v
fours v long =
    ap (λ ms. sel_l (map (top 7) ms) (replicate 32 1) (replicate 32 0))
    (zip2_splat_left at_most 240 32 v long)
    ∙ ap (λ n. sel_l (map (top 7) (map (λ x. at_most 240 x) v)) (replicate n 1) (replicate n 0))
    (sym long)
    ∙ four_lanes v

both_lanes : (v : List ℕ)
    → zip2 (λ a b. a + b) (map (byte_units Utf32) v) (map of_four v) ≡ map (byte_units Utf16) v
both_lanes [] = refl
both_lanes (x ∷ xs) = ap₂ (λ b bs. b ∷ bs) (utf16_byte x) (both_lanes xs)

both_fit : (v : List ℕ) → Each2 (λ a b. Fits w8 (a + b)) (map (byte_units Utf32) v) (map of_four v)
both_fit [] = tt
both_fit (x ∷ xs) = (record { fits = omega (arith, utf16_byte x, utf16_small x) }, both_fit xs)

pub utf16_started : (v starts : List ℕ) → length v ≡ 32 → starts ≡ map (byte_units Utf32) v
    → zip2 (λ a b. a + b) starts
    (sel_l (map (top 7) (zip2 at_most (replicate 32 240) v)) (replicate 32 1) (replicate 32 0))
    ≡ map (byte_units Utf16) v
utf16_started v starts long is = ap₂ (zip2 (λ a b. a + b)) is (fours v long) ∙ both_lanes v

pub utf16_fit : (v starts : List ℕ) → length v ≡ 32 → starts ≡ map (byte_units Utf32) v
    → Each2 (λ a b. Fits w8 (a + b)) starts
    (sel_l (map (top 7) (zip2 at_most (replicate 32 240) v)) (replicate 32 1) (replicate 32 0))
utf16_fit v starts long is = rw is (rw (fours v long) (both_fit v))

-- the sum of lanes that a test of each byte gives
sum-map : (f : ℕ → ℕ) (v : List ℕ) → sum_l (map f v) ≡ sum_by f v
sum-map f [] = refl
sum-map f (x ∷ xs) = omega (arith, sum-map f xs, sum_by-cons f x xs)

few : (f : ℕ → ℕ) → ((x : ℕ) → f x ≤ 2) → (v : List ℕ) → sum_by f v ≤ 2 * length v
few f small [] = omega arith
few f small (x ∷ xs) = omega (arith, few f small xs, small x, sum_by-cons f x xs)

pub utf16_few : (v : List ℕ) → sum_by (byte_units Utf16) v ≤ 2 * length v
utf16_few v = few (byte_units Utf16) utf16_small v

pub utf32_few : (v : List ℕ) → sum_by (byte_units Utf32) v ≤ 2 * length v
utf32_few v = few (byte_units Utf32) utf32_small v

pub sum_of_lanes : (f : ℕ → ℕ) (v lanes : List ℕ) → lanes ≡ map f v
    → fold_l (λ s x. s + x) 0 lanes ≡ sum_by f v
sum_of_lanes f v lanes is =
    let sum : fold_l (λ s x. s + x) 0 (map f v) ≡ sum_by f v =
    omega (arith, fold-sum 0 (map f v), sum-map f v) in
    ap (fold_l (λ s x. s + x) 0) is ∙ sum

pub lanes_fit : (f : ℕ → ℕ) (v lanes : List ℕ) → length v ≡ 32 → lanes ≡ map f v
    → sum_by f v ≤ 2 * length v
    → Steps (λ s x. Fits w8 (s + x)) (λ s x. s + x) 0 lanes
lanes_fit f v lanes long is few =
    sum_fits w8 0 lanes (omega (arith, ap sum_l is, sum-map f v, few, long))

-- the lanes of two vectors, each with at most 2, added
added_fit : (f : ℕ → ℕ) → ((x : ℕ) → f x ≤ 2) → (v w : List ℕ)
    → Each2 (λ a b. Fits w8 (a + b)) (map f v) (map f w)
added_fit f small (x ∷ xs) (y ∷ ys) =
    (record { fits = omega (arith, small x, small y) }, added_fit f small xs ys)
added_fit f small _ _ = tt

pub both_utf16_fit : (v w a b : List ℕ) → a ≡ map (byte_units Utf16) v → b ≡ map (byte_units Utf16) w
    → Each2 (λ a b. Fits w8 (a + b)) a b
both_utf16_fit v w a b first second =
    rw first (rw second (added_fit (byte_units Utf16) utf16_small v w))

pub both_utf32_fit : (v w a b : List ℕ) → a ≡ map (byte_units Utf32) v → b ≡ map (byte_units Utf32) w
    → Each2 (λ a b. Fits w8 (a + b)) a b
both_utf32_fit v w a b first second =
    rw first (rw second (added_fit (byte_units Utf32) utf32_small v w))

-- what they sum up to
sum_of_added : (f : ℕ → ℕ) (v w lanes : List ℕ) → length v ≡ length w
    → lanes ≡ zip2 (λ a b. a + b) (map f v) (map f w) → sum_l lanes ≡ sum_by f v + sum_by f w
sum_of_added f v w lanes same is =
    let long : length (map f v) ≡ length (map f w) = length-map v f ∙ same ∙ sym (length-map w f) in
    omega (arith, ap sum_l is, sum-zip2 (map f v) (map f w) long, sum-map f v, sum-map f w)

pub sum_of_both : (f : ℕ → ℕ) (v w lanes : List ℕ) → length v ≡ 32 → length w ≡ 32
    → lanes ≡ zip2 (λ a b. a + b) (map f v) (map f w)
    → fold_l (λ s x. s + x) 0 lanes ≡ sum_by f v + sum_by f w
sum_of_both f v w lanes first second is =
    omega (arith, fold-sum 0 lanes, sum_of_added f v w lanes (first ∙ sym second) is)

pub both_fit_in_sum : (f : ℕ → ℕ) (v w lanes : List ℕ) → length v ≡ 32 → length w ≡ 32
    → lanes ≡ zip2 (λ a b. a + b) (map f v) (map f w)
    → sum_by f v ≤ 2 * length v → sum_by f w ≤ 2 * length w
    → Steps (λ s x. Fits w8 (s + x)) (λ s x. s + x) 0 lanes
both_fit_in_sum f v w lanes first second is few more =
    sum_fits w8 0 lanes (omega (
      arith,
      sum_of_added f v w lanes (first ∙ sym second) is,
      few,
      more,
      first,
      second,
    ))
