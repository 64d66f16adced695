-- Integers below zero, and the range of integers of 32 bits.
use Rattle.std.proofs.Common.{◌≡◌, ◌==◌, ◌-◌, ◌<◌, ◌^◌, ℕ, ℤ, zero, suc, pos, negsuc, List, drop}
use Rattle.std.proofs.Common.{get_or, length, Bool, true, false, nat_lt, if◌then◌else◌, Option}
use Rattle.std.proofs.Common.{Some, None, option_and_then, codes, refl, sym, ap, subst, ◌∙◌, arith}
use Rattle.std.proofs.Common.{w32, ◌-ℤ◌, to_z, of_z}
use Rattle.std.proofs.lemmas.Bool.{and_parts}
use Rattle.std.proofs.lemmas.Bool.Decides.{nat_tests}
use Rattle.std.proofs.lemmas.Int.{ints, to_z_pos, to_z-of_z}
use Rattle.std.specs.Prelude.{nat_le, int_lt, int_le, unwrap_or}
use mir.Val.{SFits}
use Rattle.fast_float.specs.Text.{Parts, IsInteger, digits_of, scan, with_sign}
use Rattle.serde_json.specs.Data.{Data, number, negative}
use Rattle.serde_json.specs.Find.{as_number, as_i64}
use Rattle.serde_json.specs.Read.{number_of, number_from}
use Rattle.lsp_rpc.specs.Reading.{code_of}
use Rattle.lsp_rpc.specs.Shape.{as_integer, small, holds_of, is_string, member}

-- ---- their range

chosen : (b : Bool) (o : Option ℤ) (z : ℤ) → (if b then o else None) ≡ Some z
    → (b ≡ true) × (o ≡ Some z)
chosen true o z h = (refl, h)
chosen false o z h = absurd (cc)

fits_small : (y z : ℤ) → small y ≡ Some z → SFits w32 z
fits_small (pos n) z h =
    let both = chosen _ (Some (pos n)) z h in
    let tests = and_parts (int_le (negsuc (2 ^ 31 - 1)) (pos n)) (int_lt (pos n) (pos (2 ^ 31)))
    both.0 in
    let below : n < 2 ^ 31 = grind (arith, nat_tests, tests.1) in
    subst (SFits w32) (ap (λ (o : Option ℤ). unwrap_or o z) both.1) (record { sfits = below })
fits_small (negsuc n) z h =
    let both = chosen _ (Some (negsuc n)) z h in
    let tests = and_parts (int_le (negsuc (2 ^ 31 - 1)) (negsuc n))
    (int_lt (negsuc n) (pos (2 ^ 31))) both.0 in
    let below : n < 2 ^ 31 = grind (arith, nat_tests, tests.0) in
    subst (SFits w32) (ap (λ (o : Option ℤ). unwrap_or o z) both.1) (record { sfits = below })

fits_if_small : (o : Option ℤ) (z : ℤ) → option_and_then small o ≡ Some z → SFits w32 z
fits_if_small None z h = absurd (cc)
fits_if_small (Some y) z h = fits_small y z h

fits_integer : (d : Data) (z : ℤ) → as_integer d ≡ Some z → SFits w32 z
fits_integer d z h = fits_if_small (option_and_then as_i64 (as_number d)) z h

fits_member : (o : Option Data) (z : ℤ) → option_and_then as_integer o ≡ Some z → SFits w32 z
fits_member None z h = absurd (cc)
fits_member (Some d) z h = fits_integer d z h

fits_code : (d : Data) (z : ℤ) → code_of d ≡ Some z → SFits w32 z
fits_code d z h =
    fits_member (member (codes "code") d) z
    (chosen (holds_of is_string (member (codes "message") d)) _ z h).1

-- as they are passed on
pub integer_passed : (d : Data) (z : ℤ) → as_integer d ≡ Some z
    → as_integer d ≡ Some (to_z w32 (of_z w32 z))
integer_passed d z h = h ∙ ap Some (sym (to_z-of_z w32 z (fits_integer d z h)))

pub member_passed : (o : Option Data) (z : ℤ) → option_and_then as_integer o ≡ Some z
    → option_and_then as_integer o ≡ Some (to_z w32 (of_z w32 z))
member_passed o z h = h ∙ ap Some (sym (to_z-of_z w32 z (fits_member o z h)))

pub code_passed : (d : Data) (z : ℤ) → code_of d ≡ Some z
    → code_of d ≡ Some (to_z w32 (of_z w32 z))
code_passed d z h = h ∙ ap Some (sym (to_z-of_z w32 z (fits_code d z h)))

-- ---- those below zero

-- one of 32 bits is read as it is
small_negative : (n : ℕ) → 0 < n → n < 2 ^ 31
    → as_integer (number (negative (with_sign true n))) ≡ Some (with_sign true n)
small_negative zero some less = absurd (omega arith)
small_negative (suc n) some less =
    let low : nat_le n (2 ^ 31 - 1) ≡ true = grind (arith, nat_tests) in
    rw low

turned : (n : ℕ) → 0 < n → n < 2 ^ 31
    → to_z w32 (of_z w32 (pos 0 -ℤ to_z w32 n)) ≡ with_sign true n
turned zero some less = absurd (omega arith)
turned (suc n) some less =
    let fits : SFits w32 (negsuc n) = record { sfits = omega (arith, less) } in
    let minus : pos 0 -ℤ pos (suc n) ≡ negsuc n = grind (arith, ints) in
    ap (λ x. to_z w32 (of_z w32 (pos 0 -ℤ x))) (to_z_pos w32 (suc n) less)
    ∙ ap (λ x. to_z w32 (of_z w32 x)) minus ∙ to_z-of_z w32 (negsuc n) fits

pub negative_read : (n : ℕ) → 0 < n → n < 2 ^ 31
    → as_integer (number (negative (with_sign true n)))
    ≡ Some (to_z w32 (of_z w32 (pos 0 -ℤ to_z w32 n)))
negative_read n some less = small_negative n some less ∙ ap Some (sym (turned n some less))

-- what a sign and a numeral write
pub signed_numeral : (p : Parts) (n : ℕ) → IsInteger p → n ≡ digits_of p → 0 < n → n < 2 ^ 31
    → number_from true p ≡ Some (negative (with_sign true n))
signed_numeral p n is value some less =
    let whole : nat_lt 0 (length p.whole) ≡ true = grind (arith, nat_tests, is.0) in
    let none : (length p.exponent == 0) ≡ true = grind (arith, nat_tests, is.2) in
    let above : nat_lt 0 n ≡ true = grind (arith, nat_tests) in
    let below : nat_le n (2 ^ 63) ≡ true = grind (arith, nat_tests) in
    rw (whole, is.1, none, sym value, above, below)

-- a numeral with a sign is read by what stands after it
pub after_sign : (s : List ℕ) → (get_or s 0 0 == 45) ≡ true
    → number_from true (scan (drop 1 s)) ≡ number_of s
unfolding number_of
after_sign s signed = rw signed
