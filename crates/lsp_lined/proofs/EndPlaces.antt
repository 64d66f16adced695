-- The places after line ends, in a table that an edit moves.
use Rattle.std.proofs.Common.{◌≡◌, ◌<◌, ◌≤◌, ◌+◌, ◌-◌, ◌&&◌, ◌||◌, ℕ, Bool, true, false, not, cond, List, [], ◌∷◌, ◌++◌, length, map, take, drop, get_or, zero, suc, refl, sym, ap, subst, ⊎_elim, ◌∙◌, arith, length-append, append_assoc}
use Rattle.std.specs.Prelude.{EachIndex, slice_index}
use Rattle.std.proofs.lemmas.Bool.{cases_Bool, cases_lt, cond-true, cond-false, lt-ltb, le-ltb, and_left}
use Rattle.std.proofs.lemmas.List.{map-append, get_or-map, get_or_append_left, get_or-append_right, nil_from_length}
use Rattle.lsp_text.specs.Lines.{is_feed, is_return, starts_with_feed}
use Rattle.lsp_lined.specs.Ends.{is_end, is_end_at, ends_in, places_behind, moved_place, CanMove, ends_with_return, joins}
use Rattle.lsp_lined.proofs.EndCounts.{one_if, length-places_behind, places_behind-add, places_behind-append}
use Rattle.lsp_lined.proofs.PlaceSteps.{apart_from_none}

-- ---- a place of the table is after a line end

-- the place after line end `n`
pub record IsAfterEnd (bs : List ℕ) (n after : ℕ) : Type 0 where
  pub some : 0 < after
  pub within : after ≤ length bs
  pub ended : is_end_at bs (after - 1) ≡ true
  pub number : ends_in (take after bs) ≡ n + 1

-- an end stays one where fewer bytes follow
end_alone : (f r s : Bool) → (f || (r && not s)) ≡ true → (f || (r && true)) ≡ true
end_alone false false s h = h
end_alone _ _ s h = refl

starts_in_front : (bs : List ℕ) (k : ℕ) → 0 < k → starts_with_feed (take k bs) ≡ starts_with_feed bs
starts_in_front [] (suc k) some = refl
starts_in_front (b ∷ bs) (suc k) some = refl
starts_in_front _ zero some = absurd (omega arith)

first_end : (b : ℕ) (bs : List ℕ) → is_end b bs ≡ true → IsAfterEnd (b ∷ bs) 0 1
first_end b bs h =
    record {
      some = omega arith;
      within = omega arith;
      ended = h;
      number = ap (λ (v : Bool). one_if v + 0) (end_alone (is_feed b) (is_return b) (starts_with_feed bs) h);
    }

-- one byte more before it
later_end : (b : ℕ) (bs : List ℕ) (n m k : ℕ) → IsAfterEnd bs n k → m ≡ one_if (is_end b bs) + n → IsAfterEnd (b ∷ bs) m (suc k)
later_end b bs n m k h e =
    let some = h.some in
    let within = h.within in
    let number = h.number in
    let at : suc k - 1 ≡ suc (k - 1) = omega arith in
    let next : suc (k - 1) + 1 ≡ suc (k - 1 + 1) = omega arith in
    let ends : one_if (is_end b (take k bs)) ≡ one_if (is_end b bs) =
    ap (λ (s : Bool). one_if (is_feed b || (is_return b && not s))) (starts_in_front bs k h.some) in
    record {
      some = omega arith;
      within = omega arith;
      ended = ap (is_end_at (b ∷ bs)) at ∙ ap (λ i. is_end (slice_index bs (k - 1)) (drop i (b ∷ bs))) next ∙ h.ended;
      number = omega (arith, ends, number, e);
    }

place_further : (bs : List ℕ) (n : ℕ) → n < ends_in bs → get_or (places_behind 1 bs) n 0 ≡ suc (get_or (places_behind 0 bs) n 0)
place_further bs n lt =
    let within : n < length (places_behind 0 bs) = omega (arith, length-places_behind 0 bs) in
    let e : 1 + get_or (places_behind 0 bs) n 0 ≡ suc (get_or (places_behind 0 bs) n 0) = omega arith in
    ap (λ (xs : List ℕ). get_or xs n 0) (places_behind-add 1 0 bs) ∙ get_or-map (λ i. 1 + i) (places_behind 0 bs) n 0 0 within ∙ e

place_at_end : (b : ℕ) (bs : List ℕ) (n : ℕ) → is_end b bs ≡ true → n < ends_in (b ∷ bs) → ((k : ℕ) → k < ends_in bs → IsAfterEnd bs k (slice_index (places_behind 0 bs) k)) →
    IsAfterEnd (b ∷ bs) n (slice_index (places_behind 0 (b ∷ bs)) n)
place_at_end b bs zero t lt h =
    let e : get_or (places_behind 0 (b ∷ bs)) 0 0 ≡ 1 = ap (λ (xs : List ℕ). get_or xs 0 0) (cond-true (is_end b bs) (1 ∷ places_behind 1 bs) (places_behind 1 bs) t) in
    subst (λ k. IsAfterEnd (b ∷ bs) 0 k) (sym e) (first_end b bs t)
place_at_end b bs (suc j) t lt h =
    let one : one_if (is_end b bs) ≡ 1 = cond-true _ _ _ t in
    let less : j < ends_in bs = omega arith in
    let e : get_or (places_behind 0 (b ∷ bs)) (suc j) 0 ≡ suc (get_or (places_behind 0 bs) j 0) =
    ap (λ (xs : List ℕ). get_or xs (suc j) 0) (cond-true (is_end b bs) (1 ∷ places_behind 1 bs) (places_behind 1 bs) t) ∙ place_further bs j less in
    subst (λ k. IsAfterEnd (b ∷ bs) (suc j) k) (sym e) (later_end b bs j (suc j) (get_or (places_behind 0 bs) j 0) (h j less) (omega arith))

-- **Place `n` of the table is after line end `n`.**
pub place_is_end : (bs : List ℕ) (n : ℕ) → n < ends_in bs → IsAfterEnd bs n (slice_index (places_behind 0 bs) n)
place_is_end [] n lt = absurd (omega arith)
place_is_end (b ∷ bs) n lt =
    ⊎_elim
    (λ (t : is_end b bs ≡ true). place_at_end b bs n t lt (λ k. place_is_end bs k))
    (λ (f : is_end b bs ≡ false).
    let none : one_if (is_end b bs) ≡ 0 = cond-false _ _ _ f in
    let less : n < ends_in bs = omega arith in
    let e : get_or (places_behind 0 (b ∷ bs)) n 0 ≡ suc (get_or (places_behind 0 bs) n 0) =
    ap (λ (xs : List ℕ). get_or xs n 0) (cond-false (is_end b bs) (1 ∷ places_behind 1 bs) (places_behind 1 bs) f) ∙ place_further bs n less in
    subst (λ k. IsAfterEnd (b ∷ bs) n k) (sym e) (later_end b bs n n (get_or (places_behind 0 bs) n 0) (place_is_end bs n less) (omega arith)))
    (cases_Bool (is_end b bs))

-- places lie in their bytes
pub places_within : (m : ℕ) (bs : List ℕ) (k : ℕ) → k < length (places_behind m bs) → (m < get_or (places_behind m bs) k 0) × (get_or (places_behind m bs) k 0 ≤ m + length bs)
places_within m bs k lt =
    let less : k < ends_in bs = omega (arith, length-places_behind m bs) in
    let h = place_is_end bs k less in
    let some = h.some in
    let within = h.within in
    let here : k < length (places_behind 0 bs) = omega (arith, length-places_behind 0 bs) in
    let none : m ≡ m + 0 = omega arith in
    let e : get_or (places_behind m bs) k 0 ≡ m + get_or (places_behind 0 bs) k 0 =
    ap (λ i. get_or (places_behind i bs) k 0) none ∙ ap (λ (xs : List ℕ). get_or xs k 0) (places_behind-add m 0 bs) ∙ get_or-map (λ i. m + i) (places_behind 0 bs) k 0 0 here in
    (omega arith, omega arith)

-- ---- bytes without a line end come and go

-- the places of three texts, of which the second has no line end
pub places_around : (a r c : List ℕ) → ends_with_return false a ≡ false → ends_in r ≡ 0 → places_behind 0 ((a ++ r) ++ c) ≡ places_behind 0 a ++ places_behind (length a + length r) c
places_around a r c last none =
    let first : joins a (r ++ c) ≡ false = and_left _ _ last in
    let nothing : places_behind (length a) r ≡ [] = nil_from_length _ (length-places_behind (length a) r ∙ none) in
    let start : 0 + length a ≡ length a = omega arith in
    ap (places_behind 0) (append_assoc a r c) ∙ places_behind-append 0 a (r ++ c) first ∙ ap (λ n. places_behind 0 a ++ places_behind n (r ++ c)) start
    ∙ ap (λ (xs : List ℕ). places_behind 0 a ++ xs) (places_behind-append (length a) r c (apart_from_none r c none) ∙ ap (λ (xs : List ℕ). xs ++ places_behind (length a + length r) c) nothing)

moved_cond : (f : ℕ → ℕ) (v : Bool) (p q : ℕ) (xs ys : List ℕ) → f p ≡ q → map f xs ≡ ys → map f (cond v (p ∷ xs) xs) ≡ cond v (q ∷ ys) ys
moved_cond f true p q xs ys e h = rw (e, h) refl
moved_cond f false p q xs ys e h = h

-- those before stay
moved_before : (from removed inserted n : ℕ) (bs : List ℕ) → n + length bs ≤ from → map (moved_place from removed inserted) (places_behind n bs) ≡ places_behind n bs
moved_before from removed inserted n [] le = refl
moved_before from removed inserted n (b ∷ bs) le =
    moved_cond (moved_place from removed inserted) (is_end b bs) (n + 1) (n + 1) (places_behind (n + 1) bs) (places_behind (n + 1) bs)
    (cond-false _ _ _ (le-ltb from (n + 1) (omega arith)))
    (moved_before from removed inserted (n + 1) bs (omega arith))

-- and those after them move
moved_behind : (from removed inserted n m : ℕ) (bs : List ℕ) → from + removed ≤ n → m + removed ≡ n + inserted → map (moved_place from removed inserted) (places_behind n bs) ≡ places_behind m bs
moved_behind from removed inserted n m [] le e = refl
moved_behind from removed inserted n m (b ∷ bs) le e =
    let here : n + 1 - removed + inserted ≡ m + 1 = omega arith in
    moved_cond (moved_place from removed inserted) (is_end b bs) (n + 1) (m + 1) (places_behind (n + 1) bs) (places_behind (m + 1) bs)
    (cond-true _ _ _ (lt-ltb from (n + 1) (omega arith)) ∙ here)
    (moved_behind from removed inserted (n + 1) (m + 1) bs (omega arith) (omega arith))

-- **Where bytes without a line end take the place of others without one, the places after them
-- move.**
pub places_moved : (a r s c : List ℕ) → ends_with_return false a ≡ false → ends_in r ≡ 0 → ends_in s ≡ 0 →
    places_behind 0 ((a ++ s) ++ c) ≡ map (moved_place (length a) (length r) (length s)) (places_behind 0 ((a ++ r) ++ c))
places_moved a r s c last none_r none_s =
    let f : ℕ → ℕ = moved_place (length a) (length r) (length s) in
    let k = length a + length r in
    let m = length a + length s in
    sym (
    ap (map f) (places_around a r c last none_r) ∙ map-append f (places_behind 0 a) (places_behind k c)
    ∙ ap (λ (xs : List ℕ). xs ++ map f (places_behind k c)) (moved_before (length a) (length r) (length s) 0 a (omega arith))
    ∙ ap (λ (xs : List ℕ). places_behind 0 a ++ xs) (moved_behind (length a) (length r) (length s) k m c (omega arith) (omega arith))
    ∙ sym (places_around a s c last none_s)
    )

-- and the table has room for them
pub places_can_move : (a r s c : List ℕ) → ends_with_return false a ≡ false → ends_in r ≡ 0 → length ((a ++ r) ++ c) + length s ≤ 4096 →
    EachIndex (places_behind 0 ((a ++ r) ++ c)) (λ k. CanMove (length a) (length r) (length s) (slice_index (places_behind 0 ((a ++ r) ++ c)) k))
places_can_move a r s c last none room =
    let from = length a in
    let first = places_behind 0 a in
    let second = places_behind (length a + length r) c in
    let size : length ((a ++ r) ++ c) ≡ length a + length r + length c = omega (arith, length-append (a ++ r) c, length-append a r) in
    subst (λ (xs : List ℕ). EachIndex xs (λ k. CanMove from (length r) (length s) (get_or xs k 0))) (sym (places_around a r c last none)) (λ k lt.
    ⊎_elim
    (λ (less : k < length first).
    let e : get_or (first ++ second) k 0 ≡ get_or first k 0 = get_or_append_left first second 0 k less in
    let within = (places_within 0 a k less).1 in
    λ behind. absurd (omega arith))
    (λ (ge : length first ≤ k).
    let j = k - length first in
    let e : get_or (first ++ second) k 0 ≡ get_or second j 0 = get_or-append_right first second (length first) k 0 refl ge in
    let there : j < length second = omega (arith, length-append first second) in
    let low = (places_within (length a + length r) c j there).0 in
    let high = (places_within (length a + length r) c j there).1 in
    λ behind. (omega arith, omega arith))
    (cases_lt k (length first)))
