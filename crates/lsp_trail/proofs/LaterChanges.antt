-- The changes of messages whose versions rise: those after one, and how many may be looked at.
use Rattle.std.specs.Prelude.{ℤ, int_lt, nat_lt, not, ◌&&◌, length, if◌then◌else◌}
use Rattle.std.proofs.Common.{◌≡◌, ◌≤◌, ℕ, Bool, true, false, List, [], ◌∷◌, ◌++◌, refl, sym}
use Rattle.std.proofs.Common.{ap, ◌∙◌, arith, inl, inr, true≢false}
use Rattle.std.proofs.lemmas.Bool.{and_parts, cases_Bool}
use Rattle.std.proofs.lemmas.Bool.Decides.{nat_tests}
use Rattle.std.proofs.lemmas.Int.{ints}
use Rattle.std.proofs.lemmas.List.{length-append}
use Rattle.std.proofs.lemmas.List.Elements.{filter-append}
use Rattle.std.proofs.lemmas.List.Sums.{sum_by-append, sum_by-cons}
use Rattle.lsp_docs.proofs.Words.{less_behind, lt_trans}
use Rattle.lsp_trail.specs.Bases.{is_later, later}
use Rattle.lsp_trail.specs.SentEdits.{SentEdits, are_few, most_sent, most_size, sent_size}
use Rattle.lsp_trail.specs.SentEdits.{total_size}

-- ---- versions

pub not_before : (a b c : ℤ) → int_lt b a ≡ false → int_lt b c ≡ true → int_lt a c ≡ true
not_before a b c p q = grind (arith, ints)

pub not_after : (a b c : ℤ) → int_lt a b ≡ true → int_lt a c ≡ false → int_lt b c ≡ false
not_after a b c p q = grind (arith, ints)

pub reaches : (a b c : ℤ) → int_lt b a ≡ false → int_lt c b ≡ false → int_lt c a ≡ false
reaches a b c p q = grind (arith, ints)

pub earlier : (a b c : ℤ) → int_lt a b ≡ true → int_lt c b ≡ false → int_lt a c ≡ true
earlier a b c p q = grind (arith, ints)

pub itself : (a : ℤ) → int_lt a a ≡ false
itself a = grind (arith, ints)

-- ---- rising lists

-- each of a version after this one
abbrev pub AreAbove : ℤ → List SentEdits → Type 0
AreAbove n [] = Unit {0}
AreAbove n (s ∷ sent) = (int_lt n s.number ≡ true) × AreAbove n sent

-- none of a version after this one
abbrev pub AreWithin : ℤ → List SentEdits → Type 0
AreWithin n [] = Unit {0}
AreWithin n (s ∷ sent) = (int_lt n s.number ≡ false) × AreWithin n sent

abbrev pub AreRising : List SentEdits → Type 0
AreRising [] = Unit {0}
AreRising (s ∷ sent) = AreAbove s.number sent × AreRising sent

pub above-less : (m n : ℤ) (sent : List SentEdits) → int_lt m n ≡ true → AreAbove n sent → AreAbove m sent
above-less m n [] less above = tt
above-less m n (s ∷ sent) less above =
    (lt_trans m n s.number less above.0, above-less m n sent less above.1)

pub within-more : (m n : ℤ) (sent : List SentEdits) → int_lt n m ≡ true → AreWithin n sent
    → AreWithin m sent
within-more m n [] less within = tt
within-more m n (s ∷ sent) less within =
    (not_after n m s.number less within.0, within-more m n sent less within.1)

pub within-snoc : (n : ℤ) (sent : List SentEdits) (s : SentEdits) → AreWithin n sent
    → int_lt n s.number ≡ false → AreWithin n (sent ++ s ∷ [])
within-snoc n [] s within last = (last, tt)
within-snoc n (x ∷ sent) s within last = (within.0, within-snoc n sent s within.1 last)

above-snoc : (n m : ℤ) (sent : List SentEdits) (s : SentEdits) → AreAbove n sent
    → int_lt n s.number ≡ true → AreAbove n (sent ++ s ∷ [])
above-snoc n m [] s above last = (last, tt)
above-snoc n m (x ∷ sent) s above last = (above.0, above-snoc n m sent s above.1 last)

pub rises-snoc : (n : ℤ) (sent : List SentEdits) (s : SentEdits) → AreRising sent → AreWithin n sent
    → int_lt n s.number ≡ true → AreRising (sent ++ s ∷ [])
rises-snoc n [] s rises within last = (tt, tt)
rises-snoc n (x ∷ sent) s rises within last = (
  above-snoc x.number n sent s rises.0 (not_before x.number n s.number within.0 last),
  rises-snoc n sent s rises.1 within.1 last,
)

-- ---- those of later versions

pub later-append : (n : ℤ) (xs ys : List SentEdits) → later n (xs ++ ys) ≡ later n xs ++ later n ys
later-append n xs ys = filter-append (is_later n) xs ys

pub later_all : (n : ℤ) (sent : List SentEdits) → AreAbove n sent → later n sent ≡ sent
later_all n [] above = refl
later_all n (s ∷ sent) above =
    ap (λ (b : Bool). if b then s ∷ later n sent else later n sent) above.0
    ∙ ap (λ (l : List SentEdits). s ∷ l) (later_all n sent above.1)

pub later_none : (n : ℤ) (sent : List SentEdits) → AreWithin n sent → later n sent ≡ []
later_none n [] within = refl
later_none n (s ∷ sent) within =
    ap (λ (b : Bool). if b then s ∷ later n sent else later n sent) within.0
    ∙ later_none n sent within.1

-- of those of versions after an earlier one
pub later_later : (m n : ℤ) (sent : List SentEdits) → int_lt n m ≡ false
    → later n (later m sent) ≡ later n sent
later_later m n [] less = refl
later_later m n (s ∷ sent) less =
    by_test (int_lt m s.number) refl (later_later m n sent less)
  where
    by_test : (b : Bool) → int_lt m s.number ≡ b → later n (later m sent) ≡ later n sent
        → later n (if b then s ∷ later m sent else later m sent) ≡ later n (s ∷ sent)
    by_test true p same =
        ap (λ (l : List SentEdits). if int_lt n s.number then s ∷ l else l) same
    by_test false p same =
        same
        ∙ sym (ap (λ (b : Bool). if b then s ∷ later n sent else later n sent)
        (reaches s.number m n p less))

above_mid : (n : ℤ) (before : List SentEdits) (s : SentEdits) (behind : List SentEdits)
    → AreAbove n (before ++ s ∷ behind) → int_lt n s.number ≡ true
above_mid n [] s behind above = above.0
above_mid n (x ∷ before) s behind above = above_mid n before s behind above.1

-- the parts of a rising list
pub record IsSplit (before : List SentEdits) (s : SentEdits) (behind : List SentEdits) : Type 0
  where
    pub within : AreWithin s.number before
    pub above : AreAbove s.number behind

pub rises-split : (before : List SentEdits) (s : SentEdits) (behind : List SentEdits)
    → AreRising (before ++ s ∷ behind) → IsSplit before s behind
rises-split [] s behind rises = record { within = tt; above = rises.0 }
rises-split (x ∷ before) s behind rises =
    let rest = rises-split before s behind rises.1 in
    record {
      within = (
        less_behind s.number x.number (above_mid x.number before s behind rises.0),
        rest.within,
      );
      above = rest.above;
    }

-- those of later versions are its last ones
pub later_last : (n : ℤ) (sent : List SentEdits) → AreRising sent
    → (before : List SentEdits) × (sent ≡ before ++ later n sent)
later_last n [] rises = ([], refl)
later_last n (s ∷ sent) rises =
    elim (cases_Bool (int_lt n s.number)) [
      | inl p ↦ ([], sym (later_all n (s ∷ sent) (p, above-less n s.number sent p rises.0)))
      | inr p ↦
          let rest = later_last n sent rises.1 in (
            s ∷ rest.0,
            ap (λ (l : List SentEdits). s ∷ l) rest.1
                ∙ ap (λ (l : List SentEdits). s ∷ (rest.0 ++ l))
                (sym (ap (λ (b : Bool). if b then s ∷ later n sent else later n sent) p)),
          )
    ]

module _ (before : List SentEdits) (s : SentEdits) (behind : List SentEdits)
    (rises : AreRising (before ++ s ∷ behind)) where
  -- those behind one of them are of later versions
  pub later_behind : later s.number (before ++ s ∷ behind) ≡ behind
  later_behind =
      let parts = rises-split before s behind rises in
      later-append s.number before (s ∷ behind)
      ∙ ap (λ (l : List SentEdits). l ++ later s.number (s ∷ behind))
      (later_none s.number before parts.within)
      ∙ ap (λ (b : Bool). if b then s ∷ later s.number behind else later s.number behind)
      (itself s.number)
      ∙ later_all s.number behind parts.above

  -- with it, they are the last of those of versions after one before its own
  pub later_with : (n : ℤ) → int_lt n s.number ≡ true
      → later n (before ++ s ∷ behind) ≡ later n before ++ s ∷ behind
  later_with n less =
      let parts = rises-split before s behind rises in
      later-append n before (s ∷ behind)
      ∙ ap (λ (l : List SentEdits). later n before ++ l)
      (later_all n (s ∷ behind) (less, above-less n s.number behind less parts.above))

-- ---- how many may be looked at

few_parts : (n t : ℕ) → (not (nat_lt most_sent n) && not (nat_lt most_size t)) ≡ true
    → (n ≤ most_sent) × (t ≤ most_size)
few_parts n t few =
    let parts = and_parts (not (nat_lt most_sent n)) (not (nat_lt most_size t)) few in
    let one = parts.0 in
    let other = parts.1 in
    (grind (arith, nat_tests), grind (arith, nat_tests))

few_of : (n t : ℕ) → n ≤ most_sent → t ≤ most_size
    → (not (nat_lt most_sent n) && not (nat_lt most_size t)) ≡ true
few_of n t some small = grind (arith, nat_tests)

-- fewer and smaller ones
pub fewer : (xs ys : List SentEdits) → length xs ≤ length ys → total_size xs ≤ total_size ys
    → are_few ys ≡ true → are_few xs ≡ true
fewer xs ys short small few =
    let parts = few_parts (length ys) (total_size ys) few in
    few_of (length xs) (total_size xs) (omega (arith, short, parts.0))
    (omega (arith, small, parts.1))

pub few-front : (xs ys : List SentEdits) → are_few (xs ++ ys) ≡ true → are_few xs ≡ true
few-front xs ys =
    fewer xs (xs ++ ys) (omega (arith, length-append xs ys))
    (omega (arith, sum_by-append sent_size xs ys))

pub few-back : (xs ys : List SentEdits) → are_few (xs ++ ys) ≡ true → are_few ys ≡ true
few-back xs ys =
    fewer ys (xs ++ ys) (omega (arith, length-append xs ys))
    (omega (arith, sum_by-append sent_size xs ys))

not_few : (a b : Bool) → (a ≡ true → b ≡ true) → b ≡ false → a ≡ false
not_few true b so p = absurd (true≢false (sym (so refl) ∙ p))
not_few false b so p = refl

pub many-front : (xs ys : List SentEdits) → are_few xs ≡ false → are_few (xs ++ ys) ≡ false
many-front xs ys = not_few (are_few (xs ++ ys)) (are_few xs) (few-front xs ys)

pub many-back : (xs ys : List SentEdits) → are_few ys ≡ false → are_few (xs ++ ys) ≡ false
many-back xs ys = not_few (are_few (xs ++ ys)) (are_few ys) (few-back xs ys)

-- those of later versions
later-less : (n : ℤ) (sent : List SentEdits)
    → (length (later n sent) ≤ length sent) × (total_size (later n sent) ≤ total_size sent)
later-less n [] = (omega arith, omega arith)
later-less n (s ∷ sent) = by_test (int_lt n s.number) (later-less n sent)
  where
    by_test : (b : Bool)
        → (length (later n sent) ≤ length sent) × (total_size (later n sent) ≤ total_size sent)
        → (length (if b then s ∷ later n sent else later n sent) ≤ length (s ∷ sent))
        × (total_size (if b then s ∷ later n sent else later n sent) ≤ total_size (s ∷ sent))
    by_test true rest = (
      omega (arith, rest.0),
      omega (arith, rest.1, sum_by-cons sent_size s (later n sent), sum_by-cons sent_size s sent),
    )
    by_test false rest = (
      omega (arith, rest.0),
      omega (arith, rest.1, sum_by-cons sent_size s sent),
    )

pub few-later : (n : ℤ) (sent : List SentEdits) → are_few sent ≡ true
    → are_few (later n sent) ≡ true
few-later n sent = fewer (later n sent) sent (later-less n sent).0 (later-less n sent).1
