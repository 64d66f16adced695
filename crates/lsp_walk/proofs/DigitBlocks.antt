-- Which of several bytes are no digits, and the number that digits are.
use Rattle.std.proofs.Common.{◌≡◌, ◌||◌, ◌%◌, ◌^◌, ℕ, Bool, true, false, not, cond, ltb, List, []}
use Rattle.std.proofs.Common.{◌∷◌, map, length, replicate, refl, ap, ap₂, ◌∙◌, arith}
use Rattle.std.proofs.lemmas.Bool.Decides.{nat_tests}
use Rattle.std.proofs.lemmas.List.{length-map}
use Rattle.std.proofs.lemmas.Simd.{zip2_splat, zip2_splat_left, mask_l-mod}
use Rattle.std.specs.Char.{is_ascii_digit}
use Rattle.std.specs.Int.Bits.{bit_or}
use Rattle.std.specs.List.{prefix_len}
use Rattle.std.specs.Simd.Lanes.{zip2, top, mask_l}
use Rattle.json.specs.Run.{is_no_digit}

abbrev lane : Bool → ℕ
lane b = cond b 255 0

abbrev below : ℕ → ℕ → ℕ
below a b = lane (ltb a b)

either : (a b : Bool) → top 7 (bit_or (lane a) (lane b)) ≡ (a || b)
either true true = refl
either true false = refl
either false true = refl
either false false = refl

no_digit : (x : ℕ) → (ltb x 48 || ltb 57 x) ≡ is_no_digit x
no_digit x = grind (arith, nat_tests)

lane_by_lane : (v : List ℕ)
    → map (top 7) (zip2 bit_or (map (λ x. below x 48) v) (map (λ x. below 57 x) v))
    ≡ map is_no_digit v
lane_by_lane [] = refl
lane_by_lane (x ∷ xs) =
    ap₂ (λ b bs. b ∷ bs) (either (ltb x 48) (ltb 57 x) ∙ no_digit x) (lane_by_lane xs)

pub marked_others : (v : List ℕ) → length v ≡ 16
    → mask_l (map (top 7) (zip2 bit_or (zip2 below v (replicate 16 48))
    (zip2 below (replicate 16 57) v))) % 2 ^ 64
    ≡ mask_l (map is_no_digit v)
marked_others v long =
    let tests = ap₂ (zip2 bit_or) (zip2_splat below v 16 48 long)
    (zip2_splat_left below 57 16 v long) in
    ap (λ l. mask_l l % 2 ^ 64) (ap (map (top 7)) tests ∙ lane_by_lane v)
    ∙ mask_l-mod (map is_no_digit v) 64
    (omega (arith, length-map v is_no_digit))

twice : (b : Bool) → not (not b) ≡ b
twice true = refl
twice false = refl

pub same_run : (v : List ℕ) → prefix_len (λ x. not (is_no_digit x)) v ≡ prefix_len is_ascii_digit v
same_run v = ap (λ f. prefix_len f v) (λ i x. twice (is_ascii_digit x) i)
