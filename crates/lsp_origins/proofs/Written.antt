-- The number that a text writes, if it writes one as a number is written.
use Rattle.std.specs.Prelude.{◌^◌, ◌-◌, ◌&&◌, ℤ, pos, negsuc, nat_lt, nat_le, FitsSigned}
use Rattle.std.specs.Prelude.{if◌then◌else◌, option_and_then}
use Rattle.std.proofs.Common.{◌≡◌, ℕ, List, Bool, true, false, Option, Some, None, Result, Ok}
use Rattle.std.proofs.Common.{Err, refl, sym, ap, subst, w32, arith}
use Rattle.std.proofs.lemmas.Bool.Decides.{nat_tests}
use Rattle.std.proofs.lemmas.Fmt.{parse-signed_decimal}
use Rattle.std.proofs.lemmas.Option.{none-some}
use Rattle.std.proofs.lemmas.Slice.Eq.{bytes_eq-Decides}
use Rattle.std.specs.Bool.{Decides, then_some}
use Rattle.std.specs.Fmt.{signed_decimal}
use Rattle.std.specs.Str.{bytes_eq}
use Rattle.std.specs.Str.Parse.{ParsesSigned, signed_digits_value}
use Rattle.lsp_rpc.specs.Shape.{small}
use Rattle.lsp_origins.specs.Traced.{if_same, written}

-- a number of 32 bits is one, and no other number is
fits_small : (z : ℤ) → FitsSigned w32 z → small z ≡ Some z
fits_small (pos n) fits =
    let in_range : nat_lt n (2 ^ 31) ≡ true = grind (arith, nat_tests, fits.sfits) in
    ap (λ (b : Bool). if b then Some (pos n) else None) in_range
fits_small (negsuc n) fits =
    let in_range : nat_le n (2 ^ 31 - 1) ≡ true = grind (arith, nat_tests, fits.sfits) in
    ap (λ (b : Bool). if b && true then Some (negsuc n) else None) in_range

small_fits : (z y : ℤ) → small z ≡ Some y → FitsSigned w32 z
small_fits (pos n) y is = by (nat_lt n (2 ^ 31)) refl is
  where
    by : (b : Bool) → nat_lt n (2 ^ 31) ≡ b → (if b then Some (pos n) else None) ≡ Some y
        → FitsSigned w32 (pos n)
    by true in_range is = record { sfits = grind (arith, nat_tests, in_range) }
    by false in_range is = absurd (none-some y is)
small_fits (negsuc n) y is = by (nat_le n (2 ^ 31 - 1)) refl is
  where
    by : (b : Bool) → nat_le n (2 ^ 31 - 1) ≡ b
        → (if b && true then Some (negsuc n) else None) ≡ Some y → FitsSigned w32 (negsuc n)
    by true in_range is = record { sfits = grind (arith, nat_tests, in_range) }
    by false in_range is = absurd (none-some y is)

-- **a text that is read as a number**
pub written_ok : (s : List ℕ) (z : ℤ) → FitsSigned w32 z → z ≡ signed_digits_value 10 s
    → if_same z s ≡ written s
written_ok s z fits is =
    subst (λ y. if_same z s ≡ option_and_then small (if_same y s)) is
    (by (bytes_eq (signed_decimal z) s) (fits_small z fits))
  where
    by : (b : Bool) → small z ≡ Some z
        → then_some b z ≡ option_and_then small (then_some b z)
    by false is = refl
    by true is = sym is

err_is_not_ok : {E : Type 0} (e : E) (z : ℤ) → (let r : Result ℤ E = Err e in r) ≡ Ok z → ⊥
err_is_not_ok e z is = cc

-- **a text that is not**
pub written_err : {E : Type 0} (s : List ℕ) (e : E) → (let r : Result ℤ E = Err e in
    ParsesSigned w32 10 s r) → None ≡ written s
written_err {E} s e parses =
    by (bytes_eq (signed_decimal value) s) (bytes_eq-Decides (signed_decimal value) s)
  where
    value : ℤ
    value = signed_digits_value 10 s

    refused : Result ℤ E
    refused = Err e

    no_number : signed_decimal value ≡ s → (found : Option ℤ) → small value ≡ found → None ≡ found
    no_number same None is = refl
    no_number same (Some y) is =
        let fits : FitsSigned w32 value = small_fits value y is in
        absurd (err_is_not_ok e value (parse-signed_decimal w32 value s refused fits
        (omega (arith, fits.sfits)) (sym same) parses))

    by : (b : Bool) → Decides b (signed_decimal value ≡ s)
        → None ≡ option_and_then small (then_some b value)
    by false decides = refl
    by true decides = no_number (decides.0 refl) (small value) refl
