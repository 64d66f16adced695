-- Sixteen bytes of an array of numbers at once: that none is at fault, and what is passed then.
use Rattle.std.proofs.Common.{◌≡◌, ◌==◌, ◌&&◌, ◌||◌, ◌⊎◌, inl, inr, ◌+◌, ◌-◌, ◌*◌, ◌%◌, ◌^◌, ◌<◌, ◌≤◌}
use Rattle.std.proofs.Common.{ℕ, zero, suc, Bool, true, false, not, cond, eqb, ltb, nat_lt, List, [], ◌∷◌}
use Rattle.std.proofs.Common.{map, length, drop, get_or, replicate, refl, sym, ap, ap₂, ◌∙◌, arith}
use Rattle.std.proofs.Common.{lt_of_not-le, lit<}
use Rattle.std.proofs.Math.Nat.{pow-suc, eq-or-lt_of_le}
use Rattle.std.proofs.lemmas.Bool.{cases_Bool, or_parts, true≢false, eqb-true}
use Rattle.std.proofs.lemmas.Bool.Decides.{nat_tests}
use Rattle.std.proofs.lemmas.List.{get_or-take, get_or-drop, get_or_past, length-drop, length-map}
use Rattle.std.proofs.lemmas.List.{length-take-le}
use Rattle.std.proofs.lemmas.List.Sums.{prefix_len_is}
use Rattle.std.proofs.lemmas.Nat.{leading_top, pow_pos}
use Rattle.std.proofs.lemmas.Simd.{zip2_splat, zip2_splat_left, mask_l-mod, mask_l-lt, get_or-chunk}
use Rattle.std.proofs.lemmas.Simd.{length-chunk}
use Rattle.std.specs.Char.{is_ascii_digit}
use Rattle.std.specs.Int.Bits.{bit_and, bit_or}
use Rattle.std.specs.Int.Count.{count_leading_zeros}
use Rattle.std.specs.List.{prefix_len}
use Rattle.std.specs.Simd.Lanes.{zip2, top, mask_l, chunk}
use Rattle.json.specs.Word.{is_operator, is_space}
use Rattle.lsp_walk.proofs.ShortNumerals.{short_numeral, ends_at}
use Rattle.lsp_walk.proofs.Walking.{tiny_turn}
use Rattle.lsp_walk.specs.Walk.{IsNumeral, SomeItems, NumberMayBegin, is_fault, fault_lanes, part}

-- ---- the mask of the faults

abbrev lane : Bool → ℕ
lane b = cond b 255 0

or_lanes : (a b : Bool) → bit_or (lane a) (lane b) ≡ lane (a || b)
or_lanes true true = refl
or_lanes true false = refl
or_lanes false true = refl
or_lanes false false = refl

and_lanes : (a b : Bool) → bit_and (lane a) (lane b) ≡ lane (a && b)
and_lanes true true = refl
and_lanes true false = refl
and_lanes false true = refl
and_lanes false false = refl

top_of : (a : Bool) → top 7 (lane a) ≡ a
top_of true = refl
top_of false = refl

fault_lane : (a b c e f g h : Bool)
    → top 7 (bit_or (lane a) (bit_or (bit_and (lane b) (lane c))
    (bit_and (lane e) (bit_or (lane f) (bit_and (lane g) (lane h))))))
    ≡ (a || ((b && c) || (e && (f || (g && h)))))
fault_lane a b c e f g h =
    let inner : bit_or (lane f) (bit_and (lane g) (lane h)) ≡ lane (f || (g && h)) =
    ap (bit_or (lane f)) (and_lanes g h) ∙ or_lanes f (g && h) in
    let second : bit_and (lane e) (bit_or (lane f) (bit_and (lane g) (lane h)))
    ≡ lane (e && (f || (g && h))) =
    ap (bit_and (lane e)) inner ∙ and_lanes e (f || (g && h)) in
    let both = ap₂ bit_or (and_lanes b c) second ∙ or_lanes (b && c) (e && (f || (g && h))) in
    ap (top 7) (ap (bit_or (lane a)) both ∙ or_lanes a ((b && c) || (e && (f || (g && h)))))
    ∙ top_of (a || ((b && c) || (e && (f || (g && h)))))

abbrev hit : ℕ → ℕ → ℕ
hit a b = lane (eqb a b)

abbrev miss : ℕ → ℕ → ℕ
miss a b = lane (not (eqb a b))

abbrev below : ℕ → ℕ → ℕ
below a b = lane (ltb a b)

lane_by_lane : (xs ys zs : List ℕ)
    → map (top 7) (zip2 bit_or (map (λ x. below 57 x) xs)
    (zip2 bit_or (zip2 bit_and (map (λ x. below x 48) xs) (map (λ x. miss x 44) xs))
    (zip2 bit_and (map (λ x. hit x 44) xs) (zip2 bit_or (map (λ y. hit y 44) ys)
    (zip2 bit_and (map (λ y. hit y 48) ys) (map (λ z. miss z 44) zs))))))
    ≡ fault_lanes xs ys zs
lane_by_lane (x ∷ xs) (y ∷ ys) (z ∷ zs) =
    ap₂ (λ b bs. b ∷ bs)
    (fault_lane (ltb 57 x) (ltb x 48) (not (x == 44)) (x == 44) (y == 44) (y == 48) (not (z == 44)))
    (lane_by_lane xs ys zs)
lane_by_lane _ _ _ = refl

length-fault_lanes : (xs ys zs : List ℕ) → length (fault_lanes xs ys zs) ≤ length xs
length-fault_lanes (x ∷ xs) (y ∷ ys) (z ∷ zs) = omega (arith, length-fault_lanes xs ys zs)
length-fault_lanes _ _ _ = omega arith

pub marked_faults : (xs ys zs : List ℕ) → length xs ≡ 16 → length ys ≡ 16 → length zs ≡ 16
    → mask_l (map (top 7) (zip2 bit_or (zip2 below (replicate 16 57) xs)
    (zip2 bit_or (zip2 bit_and (zip2 below xs (replicate 16 48)) (zip2 miss xs (replicate 16 44)))
    (zip2 bit_and (zip2 hit xs (replicate 16 44)) (zip2 bit_or (zip2 hit ys (replicate 16 44))
    (zip2 bit_and (zip2 hit ys (replicate 16 48)) (zip2 miss zs (replicate 16 44)))))))) % 2 ^ 64
    ≡ mask_l (fault_lanes xs ys zs)
marked_faults xs ys zs long_x long_y long_z =
    let above = zip2_splat_left below 57 16 xs long_x in
    let beside = ap₂ (zip2 bit_and) (zip2_splat below xs 16 48 long_x)
    (zip2_splat miss xs 16 44 long_x) in
    let zeros = ap₂ (zip2 bit_and) (zip2_splat hit ys 16 48 long_y)
    (zip2_splat miss zs 16 44 long_z) in
    let later = ap₂ (zip2 bit_or) (zip2_splat hit ys 16 44 long_y) zeros in
    let commas = ap₂ (zip2 bit_and) (zip2_splat hit xs 16 44 long_x) later in
    let tests = ap₂ (zip2 bit_or) above (ap₂ (zip2 bit_or) beside commas) in
    ap (λ l. mask_l l % 2 ^ 64) (ap (map (top 7)) tests ∙ lane_by_lane xs ys zs)
    ∙ mask_l-mod (fault_lanes xs ys zs) 64 (omega (arith, length-fault_lanes xs ys zs, long_x))

-- ---- bits

-- where no bit is set, each is false
none_set : (ms : List Bool) (k : ℕ) → mask_l ms ≡ 0 → get_or ms k false ≡ false
none_set (true ∷ ms) k none = absurd (omega (arith, none))
none_set (false ∷ ms) (suc k) none = none_set ms k (omega (arith, none))
none_set _ _ none = refl

one_at_most : (b : Bool) → cond b 1 0 ≤ 1
one_at_most true = omega arith
one_at_most false = omega arith

-- the highest bit is set
top_set : (ms : List Bool) (j : ℕ) → 2 ^ j ≤ mask_l ms → mask_l ms < 2 ^ suc j
    → get_or ms j false ≡ true
top_set [] j least most =
    let some : 0 < 2 ^ j = pow_pos j in absurd (omega (arith, least, some))
top_set (true ∷ ms) zero least most = refl
top_set (false ∷ ms) zero least most = absurd (omega (arith, least, most))
top_set (b ∷ ms) (suc j) least most =
    let one : cond b 1 0 ≤ 1 = one_at_most b in
    let double : 2 ^ suc j ≡ 2 ^ j * 2 = pow-suc 2 j in
    let twice : 2 ^ suc (suc j) ≡ 2 ^ suc j * 2 = pow-suc 2 (suc j) in
    top_set ms j (omega (arith, least, one, double)) (omega (arith, most, one, double, twice))

-- the last lane whose bit is set
pub last_set : (ms : List Bool) → length ms ≡ 16 → 0 < mask_l ms
    → (j : ℕ) × (64 - count_leading_zeros 64 (mask_l ms) ≡ j + 1) × (j < 16)
    × (get_or ms j false ≡ true)
last_set ms long some =
    let fits : 2 ^ 16 < 2 ^ 64 = lit< tt in
    let below : mask_l ms < 2 ^ 64 = omega (arith, mask_l-lt ms, ap (λ n. 2 ^ n) long, fits) in
    let found = leading_top 64 (mask_l ms) some below in
    let set = top_set ms found.0 found.2 found.3 in (
      found.0,
      omega (arith, found.1),
      lt_of_not-le (λ past. true≢false (sym set ∙ get_or_past ms found.0 false (omega (arith, past, long)))),
      set,
    )

-- ---- lanes

fault_at : (xs ys zs : List ℕ) (k : ℕ) → k < length xs → k < length ys → k < length zs
    → get_or (fault_lanes xs ys zs) k false ≡ is_fault (get_or xs k 0) (get_or ys k 0) (get_or zs k 0)
fault_at [] ys zs k x y z = absurd (omega (arith, x))
fault_at (x ∷ xs) [] zs k xl yl zl = absurd (omega (arith, yl))
fault_at (x ∷ xs) (y ∷ ys) [] k xl yl zl = absurd (omega (arith, zl))
fault_at (x ∷ xs) (y ∷ ys) (z ∷ zs) zero xl yl zl = refl
fault_at (x ∷ xs) (y ∷ ys) (z ∷ zs) (suc k) xl yl zl =
    fault_at xs ys zs k (omega (arith, xl)) (omega (arith, yl)) (omega (arith, zl))

abbrev pub IsFree : List ℕ → ℕ → Type 0
IsFree d at = (k : ℕ) → k < 16
    → is_fault (get_or d (at + k) 0) (get_or d (at + k + 1) 0) (get_or d (at + k + 2) 0) ≡ false

pub free : (d : List ℕ) (at : ℕ) → at + 18 ≤ length d
    → mask_l (fault_lanes (chunk at 16 d) (chunk (at + 1) 16 d) (chunk (at + 2) 16 d)) ≡ 0
    → IsFree d at
free d at room none k less =
    let xs = chunk at 16 d in
    let ys = chunk (at + 1) 16 d in
    let zs = chunk (at + 2) 16 d in
    let long_x = length-chunk at 16 d (omega arith) in
    let long_y = length-chunk (at + 1) 16 d (omega arith) in
    let long_z = length-chunk (at + 2) 16 d (omega arith) in
    let x = get_or-chunk at 16 d k 0 less in
    let y : get_or ys k 0 ≡ get_or d (at + k + 1) 0 =
    get_or-chunk (at + 1) 16 d k 0 less ∙ ap (λ i. get_or d i 0) (omega arith) in
    let z : get_or zs k 0 ≡ get_or d (at + k + 2) 0 =
    get_or-chunk (at + 2) 16 d k 0 less ∙ ap (λ i. get_or d i 0) (omega arith) in
    let here = fault_at xs ys zs k (omega (arith, long_x)) (omega (arith, long_y))
    (omega (arith, long_z)) in
    ap (λ a. is_fault a (get_or d (at + k + 1) 0) (get_or d (at + k + 2) 0)) (sym x)
    ∙ ap₂ (λ b e. is_fault (get_or xs k 0) b e) (sym y) (sym z) ∙ sym here
    ∙ none_set (fault_lanes xs ys zs) k none

map_at : (xs : List ℕ) (k : ℕ) → k < length xs
    → get_or (map (λ x. x == 44) xs) k false ≡ (get_or xs k 0 == 44)
map_at [] k less = absurd (omega (arith, less))
map_at (x ∷ xs) zero less = refl
map_at (x ∷ xs) (suc k) less = map_at xs k (omega (arith, less))

-- where the last comma of a block stands
pub last_comma : (d : List ℕ) (at : ℕ) → at + 16 ≤ length d
    → (mask_l (map (λ x. x == 44) (chunk at 16 d)) ≡ 0 → ⊥)
    → (j : ℕ)
    × (64 - count_leading_zeros 64 (mask_l (map (λ x. x == 44) (chunk at 16 d))) ≡ j + 1)
    × (j < 16) × ((get_or d (at + j) 0 == 44) ≡ true)
last_comma d at room some =
    let xs = chunk at 16 d in
    let long = length-chunk at 16 d room in
    let last = last_set (map (λ x. x == 44) xs) (length-map xs (λ x. x == 44) ∙ long)
    (lt_of_not-le (λ h. some (omega (arith, h)))) in
    let there : (get_or xs last.0 0 == 44) ≡ true =
    sym (map_at xs last.0 (omega (arith, long, last.2))) ∙ last.3 in
    (last.0, last.1, last.2, ap (λ x. x == 44) (sym (get_or-chunk at 16 d last.0 0 last.2)) ∙ there)

-- ---- what a byte that is no fault tells

first_of : (a b : Bool) → (a && not b) ≡ false → b ≡ false → a ≡ false
first_of true b none is = absurd (true≢false (sym (ap not is) ∙ none))
first_of false b none is = refl

second_of : (a b : Bool) → (a && b) ≡ false → a ≡ true → b ≡ false
second_of true b none is = none
second_of false b none is = absurd (cc)

not_false : (a : Bool) → not a ≡ false → a ≡ true
not_false true h = refl
not_false false h = absurd (cc)

comma_tells : (x y z : ℕ) → is_fault x y z ≡ false → (x == 44) ≡ true
    → ((y == 44) ≡ false) × ((y == 48) ≡ true → (z == 44) ≡ true)
comma_tells x y z free comma =
    let beside = or_parts (nat_lt 57 x) _ free in
    let last = or_parts (nat_lt x 48 && not (x == 44)) _ beside.1 in
    let later = or_parts (y == 44) _ (second_of (x == 44) _ last.1 comma) in
    (later.0, λ zero. not_false (z == 44) (second_of (y == 48) _ later.1 zero))

digit_tells : (x y z : ℕ) → is_fault x y z ≡ false → (x == 44) ≡ false → is_ascii_digit x ≡ true
digit_tells x y z free other =
    let beside = or_parts (nat_lt 57 x) _ free in
    let last = or_parts (nat_lt x 48 && not (x == 44)) _ beside.1 in
    let low : nat_lt x 48 ≡ false = first_of (nat_lt x 48) (x == 44) last.0 other in
    grind (arith, nat_tests)

-- ---- the items of a block

-- digits up to a comma are a number
number_before : (d : List ℕ) (from end : ℕ) → NumberMayBegin d from → from < end → end - from ≤ 18
    → ((i : ℕ) → from ≤ i → i < end → is_ascii_digit (get_or d i 0) ≡ true) → get_or d end 0 ≡ 44
    → IsNumeral d from end
number_before d from end begins some short digits comma =
    let ends = ends_at d end (ap (λ x. is_operator x || is_space x) comma) in
    let room : end - from ≤ length (drop from d) = omega (arith, length-drop from d, ends.0) in
    let there : from + (end - from) ≡ end = omega arith in
    let run : prefix_len is_ascii_digit (drop from d) ≡ end - from =
    prefix_len_is is_ascii_digit (drop from d) (end - from) 0 room
    (λ k less. ap is_ascii_digit (get_or-drop from d k 0)
    ∙ digits (from + k) (omega arith) (omega arith))
    (λ less. ap is_ascii_digit (get_or-drop from d (end - from) 0
    ∙ ap (λ i. get_or d i 0) there ∙ comma)) in
    let long : length (part d from end) ≡ end - from =
    length-take-le (end - from) (drop from d) room in
    short_numeral d from end (omega (arith, run)) (omega (arith, long)) (omega (arith, long))
    (by (cases_Bool (get_or d from 0 == 48)) long) ends.1 (omega (arith, ends.0))
  where
    by : ((get_or d from 0 == 48) ≡ true) ⊎ ((get_or d from 0 == 48) ≡ false)
        → length (part d from end) ≡ end - from
        → (length (part d from end) ≡ 1) ⊎ ((get_or (part d from end) 0 0 == 48) ≡ false)
    by (inl nought) long =
        let after = eqb-true (get_or d (from + 1) 0) 44 (begins.zero nought) in
        let one : end - from < 2 = lt_of_not-le (λ two. true≢false
        (sym (digits (from + 1) (omega arith) (omega (arith, two))) ∙ ap is_ascii_digit after)) in
        inl (omega (arith, long, one))
    by (inr other) long =
        let first : get_or (part d from end) 0 0 ≡ get_or d from 0 =
        get_or-take (end - from) (drop from d) 0 0 (omega arith) ∙ get_or-drop from d 0 0
        ∙ ap (λ i. get_or d i 0) (omega arith) in
        inr (ap (λ x. x == 48) first ∙ other)

-- up to a byte of the block: the items before it, and the digits of the one that it stands in
record Within (depth : ℕ) (d : List ℕ) (begin at k : ℕ) : Type 0 where
  start : ℕ
  items : SomeItems depth d begin start
  begins : NumberMayBegin d start
  least : at ≤ start
  most : start ≤ at + k
  digits : (i : ℕ) → start ≤ i → i < at + k → is_ascii_digit (get_or d i 0) ≡ true

module _ (depth : ℕ) (d : List ℕ) (begin at : ℕ) (free : IsFree d at) (room : at + 18 ≤ length d)
  where
    none_within : NumberMayBegin d at → SomeItems depth d begin at → Within depth d begin at 0
    none_within begins items = record {
      start = at;
      items = items;
      begins = begins;
      least = omega arith;
      most = omega arith;
      digits = λ i least most. absurd (omega (arith, least, most));
    }

    after_comma : (k : ℕ) → k < 16 → Within depth d begin at k → get_or d (at + k) 0 ≡ 44
        → SomeItems depth d begin (at + k + 1) × NumberMayBegin d (at + k + 1)
    after_comma k less old comma =
        let here : (get_or d (at + k) 0 == 44) ≡ true = ap (λ x. x == 44) comma in
        let told = comma_tells (get_or d (at + k) 0) (get_or d (at + k + 1) 0)
        (get_or d (at + k + 2) 0) (free k less) here in
        let some : old.start < at + k = lt_of_not-le (λ past. true≢false
        (sym here ∙ ap (λ i. get_or d i 0 == 44) (omega (arith, past, old.most)) ∙ old.begins.some)) in
        let after : at + k + 1 + 1 ≡ at + k + 2 = omega arith in
        let number = number_before d old.start (at + k) old.begins some
        (omega (arith, less, old.least)) old.digits comma in (
          tiny_turn depth d begin old.start (at + k) (at + k + 1) number comma refl (omega arith)
              (omega (arith, room, less)) old.items,
          record {
            some = told.0;
            zero = λ first. ap (λ i. get_or d i 0 == 44) after ∙ told.1 first;
          },
        )

    one_more : (k : ℕ) → k < 16 → Within depth d begin at k
        → ((get_or d (at + k) 0 == 44) ≡ true) ⊎ ((get_or d (at + k) 0 == 44) ≡ false)
        → Within depth d begin at (suc k)
    one_more k less old (inl comma) =
        let passed = after_comma k less old (eqb-true _ 44 comma) in
        record {
          start = at + k + 1;
          items = passed.0;
          begins = passed.1;
          least = omega arith;
          most = omega arith;
          digits = λ i least most. absurd (omega (arith, least, most));
        }
    one_more k less old (inr other) =
        let digit = digit_tells (get_or d (at + k) 0) (get_or d (at + k + 1) 0)
        (get_or d (at + k + 2) 0) (free k less) other in
        record {
          start = old.start;
          items = old.items;
          begins = old.begins;
          least = old.least;
          most = omega (arith, old.most);
          digits = λ i least most. by i least most (eq-or-lt_of_le (omega (arith, most))) digit;
        }
      where
        by : (i : ℕ) → old.start ≤ i → i < at + suc k → (i ≡ at + k) ⊎ (i < at + k)
            → is_ascii_digit (get_or d (at + k) 0) ≡ true → is_ascii_digit (get_or d i 0) ≡ true
        by i least most (inr before) digit = old.digits i least before
        by i least most (inl same) digit = ap (λ n. is_ascii_digit (get_or d n 0)) same ∙ digit

    up_to : (k : ℕ) → k ≤ 16 → NumberMayBegin d at → SomeItems depth d begin at
        → Within depth d begin at k
    up_to zero most begins items = none_within begins items
    up_to (suc k) most begins items =
        one_more k (omega (arith, most)) (up_to k (omega (arith, most)) begins items)
        (cases_Bool (get_or d (at + k) 0 == 44))

    -- all items up to a comma of the block are passed
    pub block_passed : (k : ℕ) → k < 16 → get_or d (at + k) 0 ≡ 44 → NumberMayBegin d at
        → SomeItems depth d begin at → SomeItems depth d begin (at + k + 1)
    block_passed k less comma begins items =
        (after_comma k less (up_to k (omega (arith, less)) begins items) comma).0

-- a number may begin after a comma of the block
pub begins_again : (d : List ℕ) (at k : ℕ) → IsFree d at → k < 16 → get_or d (at + k) 0 ≡ 44
    → NumberMayBegin d (at + k + 1)
begins_again d at k free less comma =
    let told = comma_tells (get_or d (at + k) 0) (get_or d (at + k + 1) 0)
    (get_or d (at + k + 2) 0) (free k less)
    (ap (λ x. x == 44) comma) in
    let after : at + k + 1 + 1 ≡ at + k + 2 = omega arith in
    record {
      some = told.0;
      zero = λ first. ap (λ i. get_or d i 0 == 44) after ∙ told.1 first;
    }
