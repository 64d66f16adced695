-- The number that digits write.
use Rattle.std.proofs.Common.{◌≡◌, ℕ, zero, suc, ◌+◌, ◌-◌, ◌*◌, ◌<◌, ◌≤◌, true, List, [], ◌∷◌, length, get_or, take, arith}
use Rattle.std.specs.List.{list_all}
use Rattle.std.specs.Char.{is_ascii_digit, digit_value}
use Rattle.std.specs.Str.Parse.{digits_value, AllDigits}
use Rattle.std.proofs.lemmas.Int.Digits.{digits_value_more}
use Rattle.std.proofs.lemmas.Str.Parse.{digits_value-take-le}
use Rattle.std.proofs.lemmas.Bool.{and_parts}
use Rattle.std.proofs.lemmas.Bool.Decides.{nat_tests}

pub digit_at : (ds : List ℕ) (i : ℕ) → list_all is_ascii_digit ds ≡ true → i < length ds → is_ascii_digit (get_or ds i 0) ≡ true
digit_at [] i all below = absurd (omega arith)
digit_at (d ∷ ds) zero all below = (and_parts (is_ascii_digit d) (list_all is_ascii_digit ds) all).0
digit_at (d ∷ ds) (suc i) all below = digit_at ds i (and_parts (is_ascii_digit d) (list_all is_ascii_digit ds) all).1 (omega arith)

pub digit_range : (d : ℕ) → is_ascii_digit d ≡ true → (48 ≤ d) × (d ≤ 57)
digit_range d is = grind (arith, nat_tests)

pub digit_is : (d : ℕ) → is_ascii_digit d ≡ true → digit_value d ≡ d - 48
digit_is d is =
    let range = digit_range d is in
    grind (arith, nat_tests)

pub digits_all : (ds : List ℕ) → list_all is_ascii_digit ds ≡ true → AllDigits 10 ds
digits_all [] all = tt
digits_all (d ∷ ds) all =
    let both = and_parts (is_ascii_digit d) (list_all is_ascii_digit ds) all in
    let range = digit_range d both.0 in
    (rw (digit_is d both.0) (omega arith), digits_all ds both.1)

-- the number with one digit more
pub record IsMore (ds : List ℕ) (i d : ℕ) : Type 0 where
  pub value : digits_value 10 (take (i + 1) ds) ≡ 10 * digits_value 10 (take i ds) + (d - 48)
  pub low : 48 ≤ d
  pub high : d ≤ 57
  pub whole : digits_value 10 (take (i + 1) ds) ≤ digits_value 10 ds

pub number_more : (ds : List ℕ) (i : ℕ) → list_all is_ascii_digit ds ≡ true → i < length ds → IsMore ds i (get_or ds i 0)
number_more ds i all below =
    let at = digit_at ds i all below in
    let range = digit_range (get_or ds i 0) at in
    record {
      value = omega (arith, digits_value_more 10 ds i below, digit_is (get_or ds i 0) at);
      low = range.0;
      high = range.1;
      whole = digits_value-take-le 10 ds (i + 1) (omega arith);
    }
