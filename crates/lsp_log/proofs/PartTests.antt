-- The tests of the parts behind a head: which one is the first that does not stand there.
use Rattle.std.proofs.Common.{◌≡◌, ◌⊎◌, ℕ, zero, suc, ◌+◌, ◌<◌, ◌≤◌, Bool, true, false, List, [], ◌∷◌, ◌++◌, length, drop, Option, Some, refl, sym, ap, ◌∙◌, inl, inr, arith}
use Rattle.std.specs.Prelude.{◌==◌, nat_le, slice_index, if◌then◌else◌}
use Rattle.std.proofs.lemmas.List.{length-append, length-drop}
use Rattle.std.proofs.lemmas.Bool.{cases_lt}
use borrow.Author.Tests.{le-leb, leb-true}
use Rattle.lsp_log.specs.Log.{Flaw, cut_short, bad_end, parts_flaw, with_feed}
use Rattle.lsp_log.specs.Stops.{LittlePast}
use Rattle.lsp_log.proofs.LogLemmas.{clash, feed_at}

lacks : (short at : Bool) (rest : Option Flaw) → short ≡ true → (if short then Some cut_short else (if at then rest else Some bad_end)) ≡ Some cut_short
lacks true at rest p = refl
lacks false at rest p = absurd cc

misses : (short at : Bool) (rest : Option Flaw) → short ≡ false → at ≡ false → (if short then Some cut_short else (if at then rest else Some bad_end)) ≡ Some bad_end
misses false false rest p q = refl
misses _ _ rest p q = absurd cc

pub not_le : (m n : ℕ) → n < m → nat_le m n ≡ false
not_le m n more = by_test (nat_le m n) refl
  where
    by_test : (t : Bool) → nat_le m n ≡ t → t ≡ false
    by_test false e = refl
    by_test true e = absurd (omega (arith, leb-true m n e))

pub part_lacks : (n : ℕ) (ns bytes : List ℕ) → length bytes ≤ n → parts_flaw (n ∷ ns) bytes ≡ Some cut_short
part_lacks n ns bytes less = lacks (nat_le (length bytes) n) (slice_index bytes n == 10) (parts_flaw ns (drop (n + 1) bytes)) (le-leb (length bytes) n less)

pub part_ends_badly : (n : ℕ) (ns bytes : List ℕ) → n < length bytes → (slice_index bytes n == 10) ≡ false → parts_flaw (n ∷ ns) bytes ≡ Some bad_end
part_ends_badly n ns bytes more other = misses (nat_le (length bytes) n) (slice_index bytes n == 10) (parts_flaw ns (drop (n + 1) bytes)) (not_le (length bytes) n more) other

pub index_front : (xs ys : List ℕ) (n : ℕ) → n < length xs → slice_index (xs ++ ys) n ≡ slice_index xs n
index_front [] ys n below = absurd (omega (arith, below))
index_front (x ∷ xs) ys zero below = refl
index_front (x ∷ xs) ys (suc n) below = index_front xs ys n (omega (arith, below))

-- the tests of one part, where its bytes are there
pub record BadEnd (short at : Bool) (rest : Option Flaw) : Type 0 where
  pub there : short ≡ false
  pub ends : ((at ≡ true) × (rest ≡ Some bad_end)) ⊎ (at ≡ false)

pub to_tests : (short at : Bool) (rest : Option Flaw) → (if short then Some cut_short else (if at then rest else Some bad_end)) ≡ Some bad_end → BadEnd short at rest
to_tests true at rest e = absurd cc
to_tests false true rest e = record { there = refl; ends = inl (refl, e) }
to_tests false false rest e = record { there = refl; ends = inr refl }

pub of_tests : (short at : Bool) (rest : Option Flaw) → BadEnd short at rest → (if short then Some cut_short else (if at then rest else Some bad_end)) ≡ Some bad_end
of_tests true at rest t = let same : true ≡ false = t.there in absurd cc
of_tests false true rest t = of_true t.ends
  where
    of_true : {r : Option Flaw} → ((true ≡ true) × (r ≡ Some bad_end)) ⊎ (true ≡ false) → r ≡ Some bad_end
    of_true (inl p) = p.1
    of_true (inr p) = absurd cc
of_tests false false rest t = refl

pub there_is : (n : ℕ) (bytes : List ℕ) → nat_le (length bytes) n ≡ false → n < length bytes
there_is n bytes e = by_cases (cases_lt n (length bytes))
  where
    by_cases : (n < length bytes) ⊎ (length bytes ≤ n) → n < length bytes
    by_cases (inl less) = less
    by_cases (inr most) = let yes_it_is : nat_le (length bytes) n ≡ true = le-leb (length bytes) n most in absurd (cc (e, yes_it_is))

-- ---- little was read past a wrong line end

-- the first part has none
pub little_first : (n : ℕ) (ns bytes : List ℕ) → length bytes ≤ n + 64 → LittlePast (n ∷ ns) bytes
little_first n ns bytes few front after is e =
    let t = to_tests (nat_le (length front) n) (slice_index front n == 10) (parts_flaw ns (drop (n + 1) front)) e in
    let below : n < length front = there_is n front t.there in
    omega (arith, few, below, ap length is, length-append front after)

-- the second part has none
pub little_second : (part rest all : List ℕ) (first second : ℕ) → length part ≡ first → length rest ≤ second + 64 → all ≡ with_feed part ++ rest → LittlePast (first ∷ second ∷ []) all
little_second part rest all first second len few whole front after is e =
    let t = to_tests (nat_le (length front) first) (slice_index front first == 10) (parts_flaw (second ∷ []) (drop (first + 1) front)) e in
    let below : first < length front = there_is first front t.there in
    let size : length front + length after ≡ first + 1 + length rest =
    omega (arith, len, sym (length-append front after), ap length (sym is ∙ whole), length-append (with_feed part) rest, length-append part (10 ∷ [])) in
    elim t.ends [
      | inl p ↦
          let u = to_tests (nat_le (length (drop (first + 1) front)) second) (slice_index (drop (first + 1) front) second == 10) (parts_flaw [] (drop (second + 1) (drop (first + 1) front))) p.1 in
          let more : second < length (drop (first + 1) front) = there_is second (drop (first + 1) front) u.there in
          omega (arith, few, more, size, length-drop (first + 1) front)
      | inr other ↦
          let feed : slice_index front first ≡ 10 =
          sym (index_front front after first below) ∙ ap (λ (w : List ℕ). slice_index w first) (sym is ∙ whole) ∙ ap (slice_index (with_feed part ++ rest)) (sym len) ∙ feed_at part rest in
          clash (slice_index front first == 10) other (ap (λ b. b == 10) feed)
    ]
