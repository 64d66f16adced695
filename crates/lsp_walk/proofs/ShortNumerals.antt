-- A few digits write an integer of 64 bits.
use Rattle.std.proofs.Common.{◌≡◌, ◌==◌, ◌&&◌, ◌||◌, ◌⊎◌, inl, inr, ◌++◌, ◌+◌, ◌-◌, ◌*◌, ◌<◌, ◌≤◌}
use Rattle.std.proofs.Common.{◌^◌, ℕ, suc, Bool, List, [], ◌∷◌, length, take, drop, get_or, true}
use Rattle.std.proofs.Common.{false, cond, Some, None, is_some, option_and_then, lt_of_not-le, refl}
use Rattle.std.proofs.Common.{sym, ap, ap₂, subst, ◌∙◌, arith, append-nil, lit<}
use Rattle.std.proofs.lemmas.Bool.{lt-ltb, ne_eqb, and_parts, true≢false}
use Rattle.std.proofs.lemmas.Int.Digits.{digits_value_more}
use Rattle.std.proofs.lemmas.List.{drop_all, drop_more, get_or_past, get_or-drop, length-drop}
use Rattle.std.proofs.lemmas.List.{length-take-le}
use Rattle.std.proofs.lemmas.List.Folds.{list_all_more}
use Rattle.std.proofs.lemmas.Float.Parse.{scan_numeral-text_of}
use Rattle.std.proofs.lemmas.Str.Parse.{IsNumeralModel, numerals_by_value, tells_all_ascii_digits}
use Rattle.std.proofs.lemmas.Str.Parse.{not_in_digits, digits_value_short}
use Rattle.std.specs.Char.{is_ascii_digit, digit_value}
use Rattle.std.specs.List.{list_all, prefix_len}
use Rattle.std.specs.Str.{all_ascii_digits}
use Rattle.std.specs.Str.Parse.{AllDigits, digits_value}
use Rattle.fast_float.specs.Text.{Parts, IsWellFormed, scan, text_of}
use Rattle.json.specs.Print.{IsNumber}
use Rattle.json.specs.Word.{is_operator, is_space, ends_word, after_digits, after_whole}
use Rattle.json.specs.Word.{after_fraction, after_exponent, after_number}
use Rattle.serde_json.specs.Data.{unsigned}
use Rattle.serde_json.specs.Read.{number_of}
use Rattle.lsp_walk.specs.Walk.{part, IsNumeral, IsNatural, AreFewDigits}

abbrev AreDigits : List ℕ → Type 0
AreDigits s = all_ascii_digits s ≡ true

own : IsNumeralModel AreDigits (digits_value 10)
own = numerals_by_value AreDigits tells_all_ascii_digits

abbrev digits_alone : List ℕ → Parts
digits_alone s = record {
  whole = s;
  point = false;
  fraction = [];
  exponent_negative = false;
  exponent = [];
  len = length s;
}

as_digits : (s : List ℕ) → all_ascii_digits s ≡ list_all is_ascii_digit s
as_digits [] = refl
as_digits (c ∷ cs) = ap (λ rest. is_ascii_digit c && rest) (as_digits cs)

read_alone : (s : List ℕ) → AllDigits 10 s → scan s ≡ digits_alone s
read_alone s all =
    let text : text_of (digits_alone s) ≡ s = append-nil s in
    let formed : IsWellFormed (digits_alone s) = record {
      whole_digits = all;
      fraction_digits = tt;
      exponent_digits = tt;
      no_point = λ h. refl;
      no_exponent = λ h. refl;
      len_is = sym (ap length text);
    } in
    ap scan (sym text) ∙ scan_numeral-text_of (digits_alone s) formed

-- what a few digits write
pub short_natural : (s : List ℕ) → 0 < length s → length s ≤ 18 → list_all is_ascii_digit s ≡ true
    → number_of s ≡ Some (unsigned (digits_value 10 s))
unfolding number_of
short_natural s some short alone =
    let digits : AreDigits s = as_digits s ∙ alone in
    let all : AllDigits 10 s = own.to s digits in
    let first : (get_or s 0 0 == 45) ≡ false =
    ne_eqb _ 45 (not_in_digits own s 45 digits (λ r. omega (arith, r.0)) 0 some) in
    let small : 10 ^ 18 < 2 ^ 64 = lit< tt in
    let same : digits_value 10 (s ++ []) ≡ digits_value 10 s =
    ap (digits_value 10) (append-nil s) in
    let fits : digits_value 10 (s ++ []) < 2 ^ 64 =
    omega (arith, same, digits_value_short own s 18 digits short, small) in
    rw (first, read_alone s all, lt-ltb 0 (length s) some, lt-ltb _ _ fits, same)

pub short_in_range : (s : List ℕ) → 0 < length s → length s ≤ 18 → list_all is_ascii_digit s ≡ true
    → is_some (number_of s) ≡ true
short_in_range s some short alone = ap is_some (short_natural s some short alone)

-- what fewer digits write is below their power of ten
pub few_value : (s : List ℕ) (k : ℕ) → length s ≤ k → list_all is_ascii_digit s ≡ true
    → digits_value 10 s < 10 ^ k
few_value s k few alone = digits_value_short own s k (as_digits s ∙ alone) few

-- ---- a few digits are a number

same_all : (s : List ℕ) → list_all is_ascii_digit s ≡ true → prefix_len is_ascii_digit s ≡ length s
same_all [] all = refl
same_all (x ∷ xs) all =
    let both = and_parts (is_ascii_digit x) (list_all is_ascii_digit xs) all in
    let rest = same_all xs both.1 in
    ap (λ b. cond b (1 + prefix_len is_ascii_digit xs) 0) both.0 ∙ omega (arith, rest)

whole_digits : (s : List ℕ) (z : Bool) → list_all is_ascii_digit s ≡ true → 0 < length s
    → (length s ≡ 1) ⊎ (z ≡ false) → cond z (Some (drop 1 s)) (after_digits s) ≡ Some []
whole_digits s true all some (inl one) = ap Some (drop_all 1 s (omega arith))
whole_digits s true all some (inr none) = absurd (cc)
whole_digits s false all some one =
    ap (λ n. cond (n == 0) None (Some (drop n s))) (same_all s all)
    ∙ ap (λ b. cond b None (Some (drop (length s) s))) (ne_eqb (length s) 0 (λ e. omega arith))
    ∙ ap Some (drop_all (length s) s (omega arith))

no_minus : (x : ℕ) → is_ascii_digit x ≡ true → (x == 45) ≡ false
no_minus x digit = ne_eqb x 45 (λ e. true≢false (sym digit ∙ ap is_ascii_digit e))

pub digits_number : (s : List ℕ) → list_all is_ascii_digit s ≡ true → 0 < length s
    → (length s ≡ 1) ⊎ ((get_or s 0 0 == 48) ≡ false) → IsNumber s
unfolding after_number
digits_number [] all some one = let never : ⊥ = omega arith in absurd never
digits_number (x ∷ xs) all some one =
    let s = x ∷ xs in
    let both = and_parts (is_ascii_digit x) (list_all is_ascii_digit xs) all in
    ap (λ b. option_and_then after_exponent
    (option_and_then after_fraction (after_whole (cond b xs s)))) (no_minus x both.0)
    ∙ ap (λ w. option_and_then after_exponent (option_and_then after_fraction w))
    (whole_digits s (x == 48) all some one)

front_digits : (b : Bool) (x n : ℕ) (xs : List ℕ) → is_ascii_digit x ≡ b
    → list_all is_ascii_digit (take n xs) ≡ true
    → list_all is_ascii_digit (take (cond b (1 + n) 0) (x ∷ xs)) ≡ true
front_digits false x n xs is rest = refl
front_digits true x n xs is rest =
    let next : 1 + n ≡ suc n = omega arith in
    ap (λ k. list_all is_ascii_digit (take k (x ∷ xs))) next ∙ ap₂ (λ a b. a && b) is rest

pub run_of_digits : (xs : List ℕ)
    → list_all is_ascii_digit (take (prefix_len is_ascii_digit xs) xs) ≡ true
run_of_digits [] = refl
run_of_digits (x ∷ xs) =
    front_digits (is_ascii_digit x) x (prefix_len is_ascii_digit xs) xs refl (run_of_digits xs)

-- a few digits up to a place where a word ends
zero_from : (end from : ℕ) → end ≤ from → end - from ≡ 0
zero_from end from h = omega arith

digits_numeral : (d : List ℕ) (from end : ℕ) → list_all is_ascii_digit (part d from end) ≡ true
    → 0 < length (part d from end) → length (part d from end) ≤ 18
    → (length (part d from end) ≡ 1) ⊎ ((get_or (part d from end) 0 0 == 48) ≡ false)
    → ends_word (drop end d) ≡ true → end ≤ length d → IsNumeral d from end
digits_numeral d from end digits some short one ended within =
    let none : from < end = lt_of_not-le (λ h.
    omega (arith, some, ap (λ n. length (take n (drop from d))) (zero_from end from h))) in
    record {
      number = digits_number (part d from end) digits some one;
      fits = short_in_range (part d from end) some short digits;
      ended = ended;
      forward = none;
      within = within;
    }

pub short_numeral : (d : List ℕ) (from end : ℕ)
    → end ≡ from + prefix_len is_ascii_digit (drop from d) → 0 < length (part d from end)
    → length (part d from end) ≤ 18
    → (length (part d from end) ≡ 1) ⊎ ((get_or (part d from end) 0 0 == 48) ≡ false)
    → ends_word (drop end d) ≡ true → end ≤ length d → IsNumeral d from end
short_numeral d from end is some short one ended within =
    let count : prefix_len is_ascii_digit (drop from d) ≡ end - from = omega arith in
    let digits : list_all is_ascii_digit (part d from end) ≡ true =
    ap (λ n. list_all is_ascii_digit (take n (drop from d))) (sym count)
    ∙ run_of_digits (drop from d) in
    digits_numeral d from end digits some short one ended within

-- ---- at most nine digits, one after another

-- `k` digits or fewer write less than 10^k
few_less : (d : List ℕ) (from end n k : ℕ) → AreFewDigits d from end n → end - from ≤ k
    → n < 10 ^ k
few_less d from end n k old less =
    let short : length (part d from end) ≤ k =
    omega (
      arith,
      length-take-le (end - from) (drop from d)
          (omega (arith, old.within, old.forward, length-drop from d)),
    ) in
    let below = few_value (part d from end) k short old.digits in
    omega (arith, old.value, below)

pub few_below : (d : List ℕ) (from end n : ℕ) → AreFewDigits d from end n → end - from < 9
    → n < 100000001
few_below d from end n old less =
    let power : 10 ^ 8 < 100000001 = lit< tt in
    omega (arith, few_less d from end n 8 old (omega (arith, less)), power)

pub few_fits : (d : List ℕ) (from end n : ℕ) → AreFewDigits d from end n → n < 2 ^ 31
few_fits d from end n old =
    let power : 10 ^ 9 < 2 ^ 31 = lit< tt in
    omega (arith, few_less d from end n 9 old old.few, power)

pub one_digit_more : (d : List ℕ) (from end n more : ℕ) → AreFewDigits d from end n → end - from < 9
    → end < length d
    → is_ascii_digit (get_or d end 0) ≡ true → more ≡ n * 10 + digit_value (get_or d end 0)
    → AreFewDigits d from (end + 1) more
one_digit_more d from end n more old less within digit is =
    let s = drop from d in
    let i = end - from in
    let room : i < length s = omega (arith, length-drop from d, old.forward) in
    let next : end + 1 - from ≡ i + 1 = omega (arith, old.forward) in
    let place : from + i ≡ end = omega (arith, old.forward) in
    let there : get_or s i 0 ≡ get_or d end 0 =
    get_or-drop from d i 0 ∙ ap (λ k. get_or d k 0) place in
    let same : part d from (end + 1) ≡ take (i + 1) s = ap (λ k. take k s) next in
    let written : digits_value 10 (part d from (end + 1))
    ≡ digits_value 10 (part d from end) * 10 + digit_value (get_or d end 0) =
    ap (digits_value 10) same ∙ digits_value_more 10 s i room
    ∙ ap (λ x. digits_value 10 (take i s) * 10 + digit_value x) there in
    record {
      digits = ap (list_all is_ascii_digit) same ∙ list_all_more is_ascii_digit s i 0 room
          ∙ ap₂ (λ a b. a && b) old.digits (ap is_ascii_digit there ∙ digit);
      value = omega (arith, is, old.value, written);
      forward = omega (arith, old.forward);
      few = omega (arith, less, next);
      within = omega (arith, within);
    }

-- where a word ends after them, they are an integer
pub few_natural : (d : List ℕ) (from end n : ℕ) → AreFewDigits d from end n
    → 0 < length (part d from end) → length (part d from end) ≤ 18
    → (length (part d from end) ≡ 1) ⊎ ((get_or (part d from end) 0 0 == 48) ≡ false)
    → ends_word (drop end d) ≡ true → IsNatural d from end n
few_natural d from end n old some short one ended = record {
  numeral = digits_numeral d from end old.digits some short one ended old.within;
  value = short_natural (part d from end) some short old.digits
      ∙ ap (λ m. Some (unsigned m)) (sym old.value);
}

pub ends_at : (d : List ℕ) (end : ℕ)
    → (is_operator (get_or d end 0) || is_space (get_or d end 0)) ≡ true
    → (end < length d) × (ends_word (drop end d) ≡ true)
ends_at d end h =
    let within : end < length d =
    lt_of_not-le (λ past. true≢false (sym h
    ∙ ap (λ x. is_operator x || is_space x) (get_or_past d end 0 past))) in
    let here : get_or (drop end d) 0 32 ≡ get_or d end 0 =
    ap (λ l. get_or l 0 32) (drop_more d end 0 within) in
    (within, ap (λ x. is_operator x || is_space x) here ∙ h)

no_number : IsNumber [] → ⊥
unfolding after_number
no_number h = absurd (cc)

-- a number of whatever form up to a place where a word ends
pub some_numeral : (d : List ℕ) (from end : ℕ) (s : List ℕ) → s ≡ part d from end → IsNumber s
    → is_some (number_of s) ≡ true → from ≤ end
    → (is_operator (get_or d end 0) || is_space (get_or d end 0)) ≡ true → IsNumeral d from end
some_numeral d from end s same number fits le ended =
    let ends = ends_at d end ended in
    let some : from < end = lt_of_not-le (λ h.
    no_number (subst IsNumber (same ∙ ap (λ n. take n (drop from d)) (zero_from end from h))
    number)) in
    record {
      number = subst IsNumber same number;
      fits = ap (λ t. is_some (number_of t)) (sym same) ∙ fits;
      ended = ends.1;
      forward = some;
      within = omega (arith, ends.0);
    }

-- one digit, where a number may end after it
pub digit_natural : (d : List ℕ) (from n : ℕ) → is_ascii_digit (get_or d from 0) ≡ true
    → n ≡ digit_value (get_or d from 0)
    → (is_operator (get_or d (from + 1) 0) || is_space (get_or d (from + 1) 0)) ≡ true
    → IsNatural d from (from + 1) n
digit_natural d from n digit is ended =
    let after = ends_at d (from + 1) ended in
    let s = drop from d in
    let no : from - from ≡ 0 = zero_from from from (omega arith) in
    let none : AreFewDigits d from from 0 = record {
      digits = ap (λ m. list_all is_ascii_digit (take m s)) no;
      value = sym (ap (λ m. digits_value 10 (take m s)) no);
      forward = omega arith;
      few = omega arith;
      within = omega (arith, after.0);
    } in
    let one = one_digit_more d from from 0 n none (omega arith) (omega (arith, after.0)) digit
    (omega (arith, is)) in
    let len : length (part d from (from + 1)) ≡ 1 =
    length-take-le (from + 1 - from) s (omega (arith, after.0, length-drop from d))
    ∙ (let e : from + 1 - from ≡ 1 = omega arith in e) in
    few_natural d from (from + 1) n one (omega (arith, len)) (omega (arith, len)) (inl len) after.1

-- one or two digits before a comma
pub one_digit : (d : List ℕ) (from : ℕ) → is_ascii_digit (get_or d from 0) ≡ true
    → get_or d (from + 1) 0 ≡ 44 → IsNumeral d from (from + 1)
one_digit d from first comma =
    let after = ends_at d (from + 1) (ap (λ x. is_operator x || is_space x) comma) in
    let one : from + 1 - from ≡ 1 = omega arith in
    let same : get_or d from 0 ∷ [] ≡ part d from (from + 1) =
    ap (take 1) (sym (drop_more d from 0 (omega (arith, after.0))))
    ∙ ap (λ n. take n (drop from d)) (sym one) in
    let digits : list_all is_ascii_digit (get_or d from 0 ∷ []) ≡ true =
    ap (λ b. b && true) first in
    some_numeral d from (from + 1) _ same (digits_number _ digits (omega arith) (inl refl))
    (short_in_range _ (omega arith) (omega arith) digits) (omega arith)
    (ap (λ x. is_operator x || is_space x) comma)

pub two_digits : (d : List ℕ) (from : ℕ) → is_ascii_digit (get_or d from 0) ≡ true
    → (get_or d from 0 == 48) ≡ false → is_ascii_digit (get_or d (from + 1) 0) ≡ true
    → get_or d (from + 2) 0 ≡ 44
    → IsNumeral d from (from + 2)
two_digits d from first some second comma =
    let after = ends_at d (from + 2) (ap (λ x. is_operator x || is_space x) comma) in
    let two : from + 2 - from ≡ 2 = omega arith in
    let pair = get_or d from 0 ∷ get_or d (from + 1) 0 ∷ [] in
    let there : drop from d ≡ get_or d from 0 ∷ get_or d (from + 1) 0 ∷ drop (from + 1 + 1) d =
    drop_more d from 0 (omega (arith, after.0))
    ∙ ap (λ l. get_or d from 0 ∷ l) (drop_more d (from + 1) 0 (omega (arith, after.0))) in
    let same : pair ≡ part d from (from + 2) =
    ap (take 2) (sym there) ∙ ap (λ n. take n (drop from d)) (sym two) in
    let digits : list_all is_ascii_digit pair ≡ true = ap₂ (λ a b. a && (b && true)) first second in
    some_numeral d from (from + 2) _ same (digits_number pair digits (omega arith) (inr some))
    (short_in_range pair (omega arith) (omega arith) digits) (omega arith)
    (ap (λ x. is_operator x || is_space x) comma)
