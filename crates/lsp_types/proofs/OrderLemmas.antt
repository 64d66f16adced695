-- Places in their slots, as they enter and leave.
use Rattle.std.proofs.Common.{◌≡◌, ℕ, zero, suc, ◌+◌, ◌-◌, ◌≤◌, ◌<◌, List, [], ◌∷◌, ◌++◌, length}
use Rattle.std.proofs.Common.{length-append, length-set, length-take, filter, map, true, false, not}
use Rattle.std.proofs.Common.{true≢false, Option, Some, None, is_some, option_map, ◌⊎◌, inl, inr}
use Rattle.std.proofs.Common.{refl, sym, ap, ◌∙◌, subst, arith, take}
use Rattle.std.specs.Prelude.{if◌then◌else◌, nat_eq, slice_get, slice_set, slice_index_or}
use Rattle.std.specs.Prelude.{option_and_then, IfSome}
use Rattle.std.specs.List.{list_any, swap_remove}
use Rattle.std.proofs.lemmas.Bool.{cases_Bool, cases_eq, cases_lt, eqb-true, eq-eqb, or_parts}
use Rattle.std.proofs.lemmas.List.{length-map}
use Rattle.std.proofs.lemmas.Option.{none-some, same_Some, slice_get_within, slice_get_past}
use Rattle.std.proofs.lemmas.Option.{slice_get-map, slice_get-get_or}
use Rattle.lsp_types.specs.Places.{places_in, refilled, moved, without_place, AllBelow, AllDiffer}
use Rattle.lsp_types.specs.Places.{AreTied, IsOrder}

-- ---- numbers

pub same_number : (n : ℕ) → nat_eq n n ≡ true
same_number n = eq-eqb n n refl

pub other_number : (a b : ℕ) → (a ≡ b → ⊥) → nat_eq a b ≡ false
other_number a b h = elim (cases_Bool (nat_eq a b))
    [ inl p ↦ absurd (h (eqb-true a b p)) | inr p ↦ p ]

pub flip : (a b : ℕ) → nat_eq a b ≡ nat_eq b a
flip a b = elim (cases_eq a b) [
  | inl p ↦ rw p refl
  | inr n ↦ other_number a b n
      ∙ sym (other_number b a (λ e. n (sym e)))
]

-- ---- items by their places

module _ {X : Type 0} where
  pub get-set_same : (xs : List X) (i : ℕ) (x : X) → i < length xs
      → slice_get (slice_set xs i x) i ≡ Some x
  get-set_same [] i x h = absurd (omega (arith, h))
  get-set_same (y ∷ xs) zero x h = refl
  get-set_same (y ∷ xs) (suc i) x h = get-set_same xs i x (omega (arith, h))

  pub get-set_other : (xs : List X) (i j : ℕ) (x : X) → (j ≡ i → ⊥)
      → slice_get (slice_set xs i x) j ≡ slice_get xs j
  get-set_other (y ∷ xs) zero zero x h = absurd (h refl)
  get-set_other (y ∷ xs) (suc i) (suc j) x h = get-set_other xs i j x (λ e. h (ap suc e))
  get-set_other _ _ _ x h = refl

  pub get-last : (xs : List X) (x : X) → slice_get (xs ++ x ∷ []) (length xs) ≡ Some x
  get-last [] x = refl
  get-last (y ∷ xs) x = get-last xs x

  pub get-before : (xs : List X) (x y : X) (i : ℕ) → slice_get xs i ≡ Some y
      → slice_get (xs ++ x ∷ []) i ≡ Some y
  get-before [] x y i h = absurd (none-some y h)
  get-before (z ∷ xs) x y zero h = h
  get-before (z ∷ xs) x y (suc i) h = get-before xs x y i h

  pub get-push : (xs : List X) (x y : X) (i : ℕ) → slice_get (xs ++ x ∷ []) i ≡ Some y
      → (slice_get xs i ≡ Some y) ⊎ ((i ≡ length xs) × (x ≡ y))
  get-push [] x y zero h = inr (refl, same_Some x y h)
  get-push [] x y (suc i) h = absurd (none-some y h)
  get-push (z ∷ xs) x y zero h = inl h
  get-push (z ∷ xs) x y (suc i) h =
      elim (get-push xs x y i h) [ inl p ↦ inl p | inr p ↦ inr (ap suc p.0, p.1) ]

  get-take : (n : ℕ) (xs : List X) (i : ℕ) → i < n → slice_get (take n xs) i ≡ slice_get xs i
  get-take zero xs i h = absurd (omega (arith, h))
  get-take (suc n) (x ∷ xs) (suc i) h = get-take n xs i (omega (arith, h))
  get-take (suc n) _ _ h = refl

  -- the last item takes the place of the one that leaves
  pub get-swapped : (xs : List X) (i : ℕ) (d : X) → i + 1 < length xs
      → slice_get (swap_remove xs i d) i ≡ slice_get xs (length xs - 1)
  get-swapped xs i d h =
      get-take (length xs - 1) (slice_set xs i (slice_index_or xs (length xs - 1) d)) i
      (omega (arith, h))
      ∙ (get-set_same xs i (slice_index_or xs (length xs - 1) d) (omega (arith, h))
      ∙ sym (slice_get-get_or xs (length xs - 1) d (omega (arith, h))))

  pub get-unswapped : (xs : List X) (i j : ℕ) (d : X) → (j ≡ i → ⊥) → j + 1 < length xs
      → slice_get (swap_remove xs i d) j ≡ slice_get xs j
  get-unswapped xs i j d n h =
      get-take (length xs - 1) (slice_set xs i (slice_index_or xs (length xs - 1) d)) j
      (omega (arith, h)) ∙ get-set_other xs i j (slice_index_or xs (length xs - 1) d) n

  pub length-swapped : (xs : List X) (i : ℕ) (d : X) → length (swap_remove xs i d) ≡ length xs - 1
  length-swapped xs i d =
      let t = length-take (length xs - 1) (slice_set xs i (slice_index_or xs (length xs - 1) d)) in
      let l = length-set xs i (slice_index_or xs (length xs - 1) d) in
      omega (arith, t, l)

  map-fixed : (f : X → X) (xs : List X) → ((t : ℕ) (z : X) → slice_get xs t ≡ Some z → f z ≡ z)
      → map f xs ≡ xs
  map-fixed f [] h = refl
  map-fixed f (x ∷ xs) h =
      ap (λ y. y ∷ map f xs) (h 0 x refl)
      ∙ ap (λ l. x ∷ l) (map-fixed f xs (λ t z e. h (suc t) z e))

  -- one item is changed as f says, and f leaves the others
  pub set-map : (f : X → X) (xs : List X) (i : ℕ) (x y : X) → slice_get xs i ≡ Some x → f x ≡ y
      → ((t : ℕ) (z : X) → slice_get xs t ≡ Some z → (t ≡ i → ⊥) → f z ≡ z)
      → slice_set xs i y ≡ map f xs
  set-map f [] i x y h e others = absurd (none-some x h)
  set-map f (z ∷ xs) zero x y h e others =
      ap (λ w. w ∷ xs) (sym e ∙ ap f (sym (same_Some z x h)))
      ∙ ap (λ l. f z ∷ l) (sym (map-fixed f xs
      (λ t w g. others (suc t) w g (λ n. omega (arith, n)))))
  set-map f (z ∷ xs) (suc i) x y h e others =
      ap (λ w. w ∷ slice_set xs i y) (sym (others 0 z refl (λ n. omega (arith, n))))
      ∙ ap (λ l. f z ∷ l) (set-map f xs i x y h e
      (λ t w g n. others (suc t) w g (λ m. n (omega (arith, m)))))

-- ---- the places in the slots

pub places-push : (slots : List (Option ℕ)) (place : ℕ)
    → places_in (slots ++ Some place ∷ []) ≡ places_in slots ++ place ∷ []
places-push [] place = refl
places-push (None ∷ slots) place = places-push slots place
places-push (Some first ∷ slots) place = ap (λ l. first ∷ l) (places-push slots place)

pub places-full : (slots : List (Option ℕ)) → places_in (filter is_some slots) ≡ places_in slots
places-full [] = refl
places-full (None ∷ slots) = places-full slots
places-full (Some place ∷ slots) = ap (λ l. place ∷ l) (places-full slots)

pub places-length : (slots : List (Option ℕ)) → length (places_in slots) ≤ length slots
places-length [] = omega arith
places-length (None ∷ slots) = omega (arith, places-length slots)
places-length (Some place ∷ slots) = omega (arith, places-length slots)

-- all slots are full
pub place-full : (slots : List (Option ℕ)) (i : ℕ) → length (places_in slots) ≡ length slots
    → option_and_then (λ place. place) (slice_get slots i) ≡ slice_get (places_in slots) i
place-full (None ∷ slots) i h = absurd (omega (arith, places-length slots, h))
place-full (Some place ∷ slots) (suc i) h = place-full slots i (omega (arith, h))
place-full _ _ h = refl

-- a place in a slot is one of the places, and each of them is in a slot
pub among : (slots : List (Option ℕ)) (slot place : ℕ) → slice_get slots slot ≡ Some (Some place)
    → list_any (nat_eq place) (places_in slots) ≡ true
among [] slot place h = absurd (none-some (Some place) h)
among (s ∷ slots) zero place h =
    ap (λ s. list_any (nat_eq place) (places_in (s ∷ slots))) (same_Some s (Some place) h)
    ∙ rw (same_number place) refl
among (None ∷ slots) (suc slot) place h = among slots slot place h
among (Some first ∷ slots) (suc slot) place h =
    elim (cases_Bool (nat_eq place first))
    [ inl q ↦ rw q refl | inr q ↦ rw q (among slots slot place h) ]

pub found : (slots : List (Option ℕ)) (place : ℕ) → list_any (nat_eq place) (places_in slots) ≡ true
    → (slot : ℕ) × (slice_get slots slot ≡ Some (Some place))
found [] place h = absurd (true≢false (sym h))
found (None ∷ slots) place h = let there = found slots place h in (suc there.0, there.1)
found (Some first ∷ slots) place h =
    elim (cases_Bool (nat_eq place first)) [
      | inl q ↦ (0, ap (λ p. Some (Some p)) (sym (eqb-true place first q)))
      | inr q ↦ let there = found slots place (rw q at h) in (suc there.0, there.1)
    ]

pub not_among : (slots : List (Option ℕ)) (place : ℕ)
    → ((slot : ℕ) → slice_get slots slot ≡ Some (Some place) → ⊥)
    → list_any (nat_eq place) (places_in slots) ≡ false
not_among slots place h =
    elim (cases_Bool (list_any (nat_eq place) (places_in slots)))
    [ inl q ↦ let there = found slots place q in absurd (h there.0 there.1) | inr q ↦ q ]

pub all_below : (n : ℕ) (slots : List (Option ℕ))
    → ((slot place : ℕ) → slice_get slots slot ≡ Some (Some place) → place < n)
    → AllBelow n (places_in slots)
all_below n [] h = tt
all_below n (None ∷ slots) h = all_below n slots (λ s. h (suc s))
all_below n (Some place ∷ slots) h = (h 0 place refl, all_below n slots (λ s. h (suc s)))

pub one_below : (n : ℕ) (slots : List (Option ℕ)) (slot place : ℕ) → AllBelow n (places_in slots)
    → slice_get slots slot ≡ Some (Some place) → place < n
one_below n [] slot place b h = absurd (none-some (Some place) h)
one_below n (None ∷ slots) zero place b h = absurd (none-some place (same_Some None (Some place) h))
one_below n (Some first ∷ slots) zero place b h =
    subst (λ p. p < n) (same_Some first place (same_Some (Some first) (Some place) h)) b.0
one_below n (None ∷ slots) (suc slot) place b h = one_below n slots slot place b h
one_below n (Some first ∷ slots) (suc slot) place b h = one_below n slots slot place b.1 h

pub all_differ : (slots : List (Option ℕ))
    → ((s t place : ℕ) → slice_get slots s ≡ Some (Some place)
    → slice_get slots t ≡ Some (Some place) → s ≡ t) → AllDiffer (places_in slots)
all_differ [] h = tt
all_differ (None ∷ slots) h = all_differ slots (λ s t p a b. omega (arith, h (suc s) (suc t) p a b))
all_differ (Some place ∷ slots) h = (
  not_among slots place (λ s e. omega (arith, h 0 (suc s) place refl e)),
  all_differ slots (λ s t p a b. omega (arith, h (suc s) (suc t) p a b)),
)

pub one_slot : (slots : List (Option ℕ)) (s t place : ℕ) → AllDiffer (places_in slots)
    → slice_get slots s ≡ Some (Some place) → slice_get slots t ≡ Some (Some place) → s ≡ t
one_slot [] s t place d a b = absurd (none-some (Some place) a)
one_slot (x ∷ slots) zero zero place d a b = refl
one_slot (None ∷ slots) zero (suc t) place d a b =
    absurd (none-some place (same_Some None (Some place) a))
one_slot (Some first ∷ slots) zero (suc t) place d a b =
    let is = same_Some first place (same_Some (Some first) (Some place) a) in
    absurd (true≢false (sym (among slots t place b)
    ∙ (ap (λ p. list_any (nat_eq p) (places_in slots)) (sym is) ∙ d.0)))
one_slot (None ∷ slots) (suc s) zero place d a b =
    absurd (none-some place (same_Some None (Some place) b))
one_slot (Some first ∷ slots) (suc s) zero place d a b =
    let is = same_Some first place (same_Some (Some first) (Some place) b) in
    absurd (true≢false (sym (among slots s place a)
    ∙ (ap (λ p. list_any (nat_eq p) (places_in slots)) (sym is) ∙ d.0)))
one_slot (None ∷ slots) (suc s) (suc t) place d a b = ap suc (one_slot slots s t place d a b)
one_slot (Some first ∷ slots) (suc s) (suc t) place d a b =
    ap suc (one_slot slots s t place d.1 a b)

pub within : {X : Type 0} (xs : List X) (i : ℕ) → i < length xs
    → (x : X) × (slice_get xs i ≡ Some x)
within [] i h = absurd (omega (arith, h))
within (x ∷ xs) zero h = (x, refl)
within (x ∷ xs) (suc i) h = within xs i (omega (arith, h))

-- what is tied is an order
pub order-tied : (slots : List (Option ℕ)) (slot_of : List ℕ) (n : ℕ) → AreTied slots slot_of
    → length slot_of ≡ n → IsOrder (places_in slots) n
order-tied slots slot_of n h e = record {
  count = h.count ∙ e;
  below = all_below n slots (λ s p at. subst (λ m. p < m) e
      (slice_get_within slot_of p s (h.back s p at)));
  differ = all_differ slots (λ s t p a b. same_Some s t (sym (h.back s p a) ∙ h.back t p b));
  each = λ p below.
      let slot = within slot_of p (subst (λ m. p < m) (sym e) below) in
      among slots slot.0 p (h.there p slot.0 slot.1);
}

-- ---- the next place enters

pub tied-push : (slots : List (Option ℕ)) (slot_of : List ℕ) → AreTied slots slot_of
    → AreTied (slots ++ Some (length slot_of) ∷ []) (slot_of ++ length slots ∷ [])
tied-push slots slot_of h = record {
  there = λ p s e. elim (get-push slot_of (length slots) s p e) [
    | inl old ↦ get-before slots (Some (length slot_of)) (Some p) s (h.there p s old)
    | inr new ↦ subst (λ x. slice_get (slots ++ Some (length slot_of) ∷ []) x ≡ Some (Some p)) new.1
        (get-last slots (Some (length slot_of)) ∙ ap (λ q. Some (Some q)) (sym new.0))
  ];
  back = λ s p e. elim (get-push slots (Some (length slot_of)) (Some p) s e) [
    | inl old ↦ get-before slot_of (length slots) s p (h.back s p old)
    | inr new ↦ subst (λ x. slice_get (slot_of ++ length slots ∷ []) x ≡ Some s)
        (same_Some (length slot_of) p new.1)
        (get-last slot_of (length slots) ∙ ap (λ t. Some t) (sym new.0))
  ];
  count = ap length (places-push slots (length slot_of))
      ∙ (length-append (places_in slots) (length slot_of ∷ [])
      ∙ (ap (λ n. n + 1) h.count ∙ sym (length-append slot_of (length slots ∷ []))));
}

-- ---- a place leaves

-- without the place that left
abbrev dropped : ℕ → Option ℕ → Option ℕ
dropped left None = None
dropped left (Some place) = if nat_eq place left then None else Some place

abbrev renamed : ℕ → ℕ → Option ℕ → Option ℕ
renamed last left slot = option_map (moved last left) slot

places-renamed : (last left : ℕ) (slots : List (Option ℕ))
    → places_in (map (renamed last left) slots) ≡ map (moved last left) (places_in slots)
places-renamed last left [] = refl
places-renamed last left (None ∷ slots) = places-renamed last left slots
places-renamed last left (Some place ∷ slots) =
    ap (λ l. moved last left place ∷ l) (places-renamed last left slots)

places-dropped : (left : ℕ) (slots : List (Option ℕ))
    → places_in (map (dropped left) slots)
    ≡ filter (λ place. not (nat_eq place left)) (places_in slots)
places-dropped left [] = refl
places-dropped left (None ∷ slots) = places-dropped left slots
places-dropped left (Some place ∷ slots) = elim (cases_Bool (nat_eq place left)) [
  | inl q ↦ rw q (places-dropped left slots)
  | inr q ↦ rw q (ap (λ l. place ∷ l) (places-dropped left slots))
]

all_others : (left : ℕ) (places : List ℕ) → list_any (nat_eq left) places ≡ false
    → filter (λ place. not (nat_eq place left)) places ≡ places
all_others left [] h = refl
all_others left (place ∷ places) h =
    rw (flip place left ∙ (or_parts (nat_eq left place) _ h).0)
    (ap (λ l. place ∷ l) (all_others left places (or_parts (nat_eq left place) _ h).1))

length-dropped : (left : ℕ) (places : List ℕ) → AllDiffer places
    → list_any (nat_eq left) places ≡ true
    → length (filter (λ place. not (nat_eq place left)) places) + 1 ≡ length places
length-dropped left [] d h = absurd (true≢false (sym h))
length-dropped left (place ∷ places) d h =
    elim (cases_Bool (nat_eq left place)) [
      | inl q ↦ rw (
        flip place left ∙ q,
        all_others left places
            (ap (λ p. list_any (nat_eq p) places) (eqb-true left place q) ∙ d.0),
      ) (omega arith)
      | inr q ↦ let rest = length-dropped left places d.1 (rw q at h) in rw (flip place left ∙ q)
          (omega (arith, rest))
    ]

-- the place that a slot held before
record IsCell (slots : List (Option ℕ)) (last left slot place : ℕ) : Type 0 where
  was : ℕ
  there : slice_get slots slot ≡ Some (Some was)
  stays : was ≡ left → ⊥
  is : moved last left was ≡ place

cell-back : (slots : List (Option ℕ)) (last left slot place : ℕ)
    → slice_get (map (renamed last left) (map (dropped left) slots)) slot ≡ Some (Some place)
    → IsCell slots last left slot place
cell-back [] last left slot place e = absurd (none-some (Some place) e)
cell-back (None ∷ slots) last left zero place e =
    absurd (none-some place (same_Some None (Some place) e))
cell-back (Some q ∷ slots) last left zero place e =
    elim (cases_Bool (nat_eq q left)) [
      | inl k ↦ absurd (none-some place (same_Some None (Some place) (rw k at e)))
      | inr k ↦ record {
        was = q;
        there = refl;
        stays = λ same. absurd (true≢false (sym (eq-eqb q left same) ∙ k));
        is = same_Some (moved last left q) place
            (same_Some (Some (moved last left q)) (Some place) (rw k at e));
      }
    ]
cell-back (x ∷ slots) last left (suc slot) place e =
    let c = cell-back slots last left slot place e in
    record { was = c.was; there = c.there; stays = c.stays; is = c.is }

cell : (slots : List (Option ℕ)) (last left slot q : ℕ) → slice_get slots slot ≡ Some (Some q)
    → (q ≡ left → ⊥)
    → slice_get (map (renamed last left) (map (dropped left) slots)) slot
    ≡ Some (Some (moved last left q))
cell slots last left slot q e n =
    slice_get-map (renamed last left) (map (dropped left) slots) slot
    ∙ (ap (option_map (renamed last left))
    (slice_get-map (dropped left) slots slot ∙ ap (option_map (dropped left)) e)
    ∙ rw (other_number q left n) refl)

pub moved-last : (last left : ℕ) → moved last left last ≡ left
moved-last last left = rw (same_number last) refl

pub moved-other : (last left q : ℕ) → (q ≡ last → ⊥) → moved last left q ≡ q
moved-other last left q n = rw (other_number q last n) refl

module _ (slots : List (Option ℕ)) (slot_of : List ℕ) (left slot d : ℕ) (h : AreTied slots slot_of)
    (found : slice_get slot_of left ≡ Some slot) where
  gone-is : slice_set slots slot None ≡ map (dropped left) slots
  gone-is = set-map (dropped left) slots slot (Some left) None (h.there left slot found)
      (rw (same_number left) refl) others
    where
      others : (t : ℕ) (z : Option ℕ) → slice_get slots t ≡ Some z → (t ≡ slot → ⊥)
          → dropped left z ≡ z
      others t None e n = refl
      others t (Some p) e n =
          rw (other_number p left (λ same. n (same_Some t slot
          (sym (h.back t p e) ∙ (ap (slice_get slot_of) same ∙ found))))) refl

  -- the last place is another one, and its slot takes the new number
  filled-is : (last m : ℕ) → slice_get slot_of last ≡ Some m → (last ≡ left → ⊥)
      → slice_set (map (dropped left) slots) m (Some left)
      ≡ map (renamed last left) (map (dropped left) slots)
  filled-is last m at n = set-map (renamed last left) (map (dropped left) slots) m (Some last)
      (Some left) there (ap (λ p. Some p) (moved-last last left)) others
    where
      there : slice_get (map (dropped left) slots) m ≡ Some (Some last)
      there = slice_get-map (dropped left) slots m
          ∙ (ap (option_map (dropped left)) (h.there last m at)
          ∙ rw (other_number last left n) refl)

      before : (t p : ℕ) → slice_get (map (dropped left) slots) t ≡ Some (Some p)
          → slice_get slots t ≡ Some (Some p)
      before t p e = go slots t e
        where
          go : (xs : List (Option ℕ)) (t : ℕ) → slice_get (map (dropped left) xs) t ≡ Some (Some p)
              → slice_get xs t ≡ Some (Some p)
          go [] t e = absurd (none-some (Some p) e)
          go (None ∷ xs) zero e = absurd (none-some p (same_Some None (Some p) e))
          go (Some q ∷ xs) zero e = elim (cases_Bool (nat_eq q left)) [
            | inl k ↦ absurd (none-some p (same_Some None (Some p) (rw k at e)))
            | inr k ↦ rw k at e
          ]
          go (x ∷ xs) (suc t) e = go xs t e

      others : (t : ℕ) (z : Option ℕ) → slice_get (map (dropped left) slots) t ≡ Some z
          → (t ≡ m → ⊥) → renamed last left z ≡ z
      others t None e n = refl
      others t (Some p) e n =
          ap (λ q. Some q) (moved-other last left p
          (λ same. n (same_Some t m (sym (h.back t p (before t p e))
          ∙ (ap (slice_get slot_of) same ∙ at)))))

  pub after-is : refilled (slice_get (swap_remove slot_of left d) left) left
      (slice_set slots slot None)
      ≡ map (renamed (length slot_of - 1) left) (map (dropped left) slots)
  after-is =
      let below = slice_get_within slot_of left slot found in
      elim (cases_lt (left + 1) (length slot_of)) [
        | inl other ↦
            let last = within slot_of (length slot_of - 1) (omega (arith, other)) in
            ap (λ o. refilled o left (slice_set slots slot None))
            (get-swapped slot_of left d other ∙ last.1)
            ∙ (ap (λ l. slice_set l last.0 (Some left)) gone-is
            ∙ filled-is (length slot_of - 1) last.0 last.1 (λ same. omega (arith, other, same)))
        | inr same ↦
            ap (λ o. refilled o left (slice_set slots slot None))
            (slice_get_past (swap_remove slot_of left d) left
            (omega (arith, same, length-swapped slot_of left d)))
            ∙ (gone-is ∙ sym (map-fixed (renamed (length slot_of - 1) left)
            (map (dropped left) slots) (λ t z e. still z (omega (arith, same, below)))))
      ]
    where
      still : {last : ℕ} (z : Option ℕ) → last ≡ left → renamed last left z ≡ z
      still None e = refl
      still {last} (Some p) e =
          elim (cases_Bool (nat_eq p last))
          [ inl k ↦ rw k (ap (λ q. Some q) (sym e ∙ sym (eqb-true p last k))) | inr k ↦ rw k refl ]

  pub places-removed : places_in
      (refilled (slice_get (swap_remove slot_of left d) left) left (slice_set slots slot None))
      ≡ without_place left (places_in slots)
  places-removed =
      ap places_in after-is
      ∙ (places-renamed (length slot_of - 1) left (map (dropped left) slots)
      ∙ (ap (map (moved (length slot_of - 1) left)) (places-dropped left slots)
      ∙ ap (λ n. map (moved (n - 1) left) (filter (λ place. not (nat_eq place left))
      (places_in slots))) (sym h.count)))

  pub tied-removed : AreTied
      (refilled (slice_get (swap_remove slot_of left d) left) left (slice_set slots slot None))
      (swap_remove slot_of left d)
  tied-removed = record {
    there = λ p s e. rw after-is (there p s e);
    back = λ s p e. back s p (rw after-is at e);
    count = ap length places-removed ∙ (length-map
        (filter (λ place. not (nat_eq place left)) (places_in slots))
        (moved (length (places_in slots) - 1) left) ∙ fewer);
  }
    where
      there : (p s : ℕ) → slice_get (swap_remove slot_of left d) p ≡ Some s
          → slice_get (map (renamed (length slot_of - 1) left) (map (dropped left) slots)) s
          ≡ Some (Some p)
      there p s e =
          let below = slice_get_within (swap_remove slot_of left d) p s e in
          let short = length-swapped slot_of left d in
          elim (cases_eq p left) [
            | inl same ↦
                let at = sym (get-swapped slot_of left d (omega (arith, below, short, same)))
                ∙ (ap (slice_get (swap_remove slot_of left d)) (sym same) ∙ e) in
                cell slots (length slot_of - 1) left s (length slot_of - 1)
                (h.there (length slot_of - 1) s at) (λ k. omega (arith, below, short, same, k))
                ∙ ap (λ q. Some (Some q)) (moved-last (length slot_of - 1) left ∙ sym same)
            | inr other ↦
                let at = sym (get-unswapped slot_of left p d other (omega (arith, below, short)))
                ∙ e in
                cell slots (length slot_of - 1) left s p (h.there p s at) other
                ∙ ap (λ q. Some (Some q))
                (moved-other (length slot_of - 1) left p (λ k. omega (arith, below, short, k)))
          ]

      back : (s p : ℕ) → slice_get (map (renamed (length slot_of - 1) left)
          (map (dropped left) slots)) s ≡ Some (Some p)
          → slice_get (swap_remove slot_of left d) p ≡ Some s
      back s p e =
          let c = cell-back slots (length slot_of - 1) left s p e in
          let at = h.back s c.was c.there in
          let below = slice_get_within slot_of c.was s at in
          elim (cases_eq c.was (length slot_of - 1)) [
            | inl same ↦
                let is : left ≡ p = sym (moved-last (length slot_of - 1) left)
                ∙ (ap (moved (length slot_of - 1) left) (sym same) ∙ c.is) in
                ap (slice_get (swap_remove slot_of left d)) (sym is)
                ∙ (get-swapped slot_of left d
                (further c.was c.stays below same (slice_get_within slot_of left slot found))
                ∙ (ap (slice_get slot_of) (sym same) ∙ at))
            | inr other ↦
                let is : c.was ≡ p = sym (moved-other (length slot_of - 1) left c.was other)
                ∙ c.is in
                ap (slice_get (swap_remove slot_of left d)) (sym is)
                ∙ (get-unswapped slot_of left c.was d c.stays (omega (arith, below, other))
                ∙ at)
          ]
        where
          further : (q : ℕ) → (q ≡ left → ⊥) → q < length slot_of → q ≡ length slot_of - 1
              → left < length slot_of → left + 1 < length slot_of
          further q n below same left_below = elim (cases_eq (left + 1) (length slot_of)) [
            | inl e ↦ absurd (n (omega (arith, e, same)))
            | inr m ↦ omega (arith, m, left_below)
          ]

      fewer : length (filter (λ place. not (nat_eq place left)) (places_in slots))
          ≡ length (swap_remove slot_of left d)
      fewer =
          let o = order-tied slots slot_of (length slot_of) h refl in
          let one = length-dropped left (places_in slots) o.differ
          (o.each left (slice_get_within slot_of left slot found)) in
          omega (arith, one, h.count, length-swapped slot_of left d)

  pub refill-within : IfSome (slice_get (swap_remove slot_of left d) left) (λ m. m < length slots)
  refill-within = go (slice_get (swap_remove slot_of left d) left) (λ m e.
      let c = cell-back slots (length slot_of - 1) left m left
      (rw after-is at (tied-removed.there left m e)) in
      slice_get_within slots m (Some c.was) c.there)
    where
      go : (o : Option ℕ) → ((m : ℕ) → o ≡ Some m → m < length slots)
          → IfSome o (λ m. m < length slots)
      go None h = tt
      go (Some m) h = h m refl

-- ---- the slots are numbered anew

pub number-step : (slots : List (Option ℕ)) (slot_of : List ℕ) (n place : ℕ)
    → AllDiffer (places_in slots) → slice_get slots n ≡ Some (Some place) → place < length slot_of
    → ((t p : ℕ) → t < n → slice_get slots t ≡ Some (Some p) → slice_get slot_of p ≡ Some t)
    → (t p : ℕ) → t < n + 1 → slice_get slots t ≡ Some (Some p)
    → slice_get (slice_set slot_of place n) p ≡ Some t
number-step slots slot_of n place d at below before t p within there =
    elim (cases_eq t n) [
      | inl same ↦
          let is = same_Some p place (same_Some (Some p) (Some place)
          (sym there ∙ (ap (slice_get slots) same ∙ at))) in
          ap (slice_get (slice_set slot_of place n)) is
          ∙ (get-set_same slot_of place n below ∙ ap (λ x. Some x) (sym same))
      | inr other ↦
          get-set_other slot_of place p n
          (λ is. other (one_slot slots t n p d there (at ∙ ap (λ x. Some (Some x)) (sym is))))
          ∙ before t p (omega (arith, within, other)) there
    ]

pub number-skip : (slots : List (Option ℕ)) (slot_of : List ℕ) (n : ℕ)
    → slice_get slots n ≡ Some None
    → ((t p : ℕ) → t < n → slice_get slots t ≡ Some (Some p) → slice_get slot_of p ≡ Some t)
    → (t p : ℕ) → t < n + 1 → slice_get slots t ≡ Some (Some p) → slice_get slot_of p ≡ Some t
number-skip slots slot_of n at before t p within there =
    elim (cases_eq t n) [
      | inl same ↦ absurd (none-some p (same_Some None (Some p)
          (sym at ∙ (ap (slice_get slots) (sym same) ∙ there))))
      | inr other ↦ before t p (omega (arith, within, other)) there
    ]

pub number-all : (slots : List (Option ℕ)) (slot_of : List ℕ)
    → IsOrder (places_in slots) (length slot_of)
    → ((t p : ℕ) → t < length slots → slice_get slots t ≡ Some (Some p)
    → slice_get slot_of p ≡ Some t) → AreTied slots slot_of
number-all slots slot_of o noted = record {
  there = λ p s e.
      let slot = found slots p (o.each p (slice_get_within slot_of p s e)) in
      ap (slice_get slots) (same_Some s slot.0
      (sym e ∙ noted slot.0 p (slice_get_within slots slot.0 (Some p) slot.1) slot.1)) ∙ slot.1;
  back = λ s p e. noted s p (slice_get_within slots s (Some p) e) e;
  count = o.count;
}
