-- Vectors of bytes that are ASCII: no lane is marked as another byte.
use Rattle.std.proofs.Common.{◌≡◌, ◌↔◌, ◌≤◌, ◌+◌, ◌*◌, ◌%◌, ◌^◌, ℕ, suc, Bool, true, false, cond, ltb, leb}
use Rattle.std.proofs.Common.{IsTrue, nat_eq, List, [], ◌∷◌, length, map, replicate}
use Rattle.std.proofs.Common.{refl, sym, ap, ap₂, ◌∙◌, arith}
use Rattle.std.proofs.lemmas.Bool.Decides.{Decides-eqb, nat_tests}
use Rattle.std.proofs.lemmas.List.{length-map}
use Rattle.std.proofs.lemmas.List.Sums.{sum_by-cons, count_by-le-length}
use Rattle.std.proofs.lemmas.Simd.{zip2_splat_left, mask_l-mod}
use Rattle.std.specs.List.{count_by}
use Rattle.std.specs.Simd.Lanes.{zip2, top, mask_l}

-- the lanes that the comparison answers
abbrev at_most : ℕ → ℕ → ℕ
at_most a b = cond (leb a b) 255 0

one : (b : Bool) → top 7 (cond b 255 0) ≡ b
one true = refl
one false = refl

tops : (v : List ℕ) → map (top 7) (map (λ x. at_most 128 x) v) ≡ map (leb 128) v
tops [] = refl
tops (x ∷ xs) = ap₂ (λ b bs. b ∷ bs) (one (leb 128 x)) (tops xs)

-- a byte is ASCII, or it is marked
narrow_or_wide : (x : ℕ) → cond {A = ℕ} (ltb x 128) 1 0 + cond (leb 128 x) 1 0 ≡ 1
narrow_or_wide x = grind (arith, nat_tests)

step : (a w n m len : ℕ) → a + w ≡ 1 → n ≤ len → (m ≡ 0) ↔ (n ≡ len)
    → (w + 2 * m ≡ 0) ↔ (a + n ≡ suc len)
step a w n m len either most rest = (
  λ z. omega (arith, either, z, rest.0 (omega (arith, z))),
  λ e. omega (arith, either, most, e, rest.1 (omega (arith, either, most, e))),
)

-- no lane is marked exactly where all bytes are ASCII
none : (v : List ℕ) → (mask_l (map (leb 128) v) ≡ 0) ↔ (count_by (λ x. ltb x 128) v ≡ length v)
none [] = (λ _. refl, λ _. refl)
none (x ∷ xs) =
    let more : count_by (λ x. ltb x 128) (x ∷ xs) ≡ cond (ltb x 128) 1 0 + count_by (λ x. ltb x 128) xs
    = sum_by-cons (λ x. cond (ltb x 128) 1 0) x xs in
    let next = step (cond (ltb x 128) 1 0) (cond (leb 128 x) 1 0) (count_by (λ x. ltb x 128) xs)
    (mask_l (map (leb 128) xs)) (length xs) (narrow_or_wide x)
    (count_by-le-length (λ x. ltb x 128) xs) (none xs) in
    (λ z. more ∙ next.0 z, λ e. next.1 (sym more ∙ e))

pub none_wide : (v : List ℕ) → length v ≡ 64
    → IsTrue (nat_eq (mask_l (map (top 7) (zip2 at_most (replicate 64 128) v)) % 2 ^ 64) 0)
    ↔ (count_by (λ x. ltb x 128) v ≡ 64)
none_wide v long =
    let lanes : map (top 7) (zip2 at_most (replicate 64 128) v) ≡ map (leb 128) v
    = ap (map (top 7)) (zip2_splat_left at_most 128 64 v long) ∙ tops v in
    let mask = ap (λ l. mask_l l % 2 ^ 64) lanes
    ∙ mask_l-mod (map (leb 128) v) 64 (omega (arith, length-map v (leb 128), long)) in
    let is = Decides-eqb (mask_l (map (top 7) (zip2 at_most (replicate 64 128) v)) % 2 ^ 64) 0 in (
      λ t. (none v).0 (sym mask ∙ is.0 t) ∙ long,
      λ e. is.1 (mask ∙ (none v).1 (e ∙ sym long)),
    )
