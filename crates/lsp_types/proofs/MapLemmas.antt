-- Entries in the order of their places, as keys enter and leave.
use Rattle.std.proofs.Common.{◌≡◌, ℕ, zero, suc, ◌+◌, ◌-◌, ◌<◌, List, [], ◌∷◌, ◌++◌, length, filter}
use Rattle.std.proofs.Common.{map, Bool, true, false, not, ◌||◌, true≢false, Option, Some, None}
use Rattle.std.proofs.Common.{get_or, option_map, ◌⊎◌, inl, inr, refl, sym, ap, ◌∙◌, subst, arith}
use Rattle.std.specs.Prelude.{if◌then◌else◌, nat_eq, option_and_then, option_to_list, slice_get}
use Rattle.std.specs.Prelude.{string_bytes}
use Rattle.std.specs.Cmp.{IsEquivalence}
use Rattle.std.specs.List.{AllByRecursion, IsDistinct, list_any, position, swap_remove}
use Rattle.std.specs.Map.{keys_of, lookup, remove_entry, set_value, IsKeyTest}
use Rattle.std.proofs.lemmas.Bool.{cases_Bool, cases_eq, eqb-true, or_parts}
use Rattle.std.proofs.lemmas.List.{length-map}
use Rattle.std.proofs.lemmas.List.Quantifiers.{position-Some}
use Rattle.std.proofs.lemmas.Option.{get_or_from_slice_get, none-some, same_Some, slice_get_within}
use Rattle.std.proofs.lemmas.Option.{slice_get-map}
use Rattle.indexmap.specs.IndexMap.{swap_remove_entry}
use Rattle.indexmap.proofs.MapLemmas.{swap_remove_entry-found}
use Rattle.std.specs.Str.{bytes_eq}
use Rattle.std.specs.String.{string_eq}
use Rattle.std.proofs.lemmas.Slice.Eq.{bytes_eq-Decides}
use Rattle.lsp_types.specs.Texts.{is_text}
use Rattle.lsp_types.specs.Places.{in_order, moved, without_place, AllBelow, AllDiffer, IsOrder}
use Rattle.lsp_types.proofs.OrderLemmas.{get-before, get-last, get-swapped, get-unswapped}
use Rattle.lsp_types.proofs.OrderLemmas.{moved-last, moved-other, other_number, same_number, within}

-- ---- items in order

module _ {X : Type 0} where
  first-of : (o : Option X) (rest : List X) (x : X) → o ≡ Some x
      → option_to_list o ++ rest ≡ x ∷ rest
  first-of None rest x e = absurd (none-some x e)
  first-of (Some y) rest x e = ap (λ z. z ∷ rest) (same_Some y x e)

  head-of : (place : ℕ) (places : List ℕ) (xs : List X) → place < length xs
      → (x : X) × ((slice_get xs place ≡ Some x)
      × (in_order (place ∷ places) xs ≡ x ∷ in_order places xs))
  head-of place places xs h =
      let at = within xs place h in (
        at.0,
        (
          at.1,
          first-of (slice_get xs place) (in_order places xs) at.0 at.1,
        ),
      )

  pub length-in_order : (places : List ℕ) (xs : List X) → AllBelow (length xs) places
      → length (in_order places xs) ≡ length places
  length-in_order [] xs b = refl
  length-in_order (place ∷ places) xs b =
      ap length (head-of place places xs b.0).1.1 ∙ ap suc (length-in_order places xs b.1)

  pub get-in_order : (places : List ℕ) (xs : List X) (i : ℕ) → AllBelow (length xs) places
      → slice_get (in_order places xs) i
      ≡ option_and_then (λ place. slice_get xs place) (slice_get places i)
  get-in_order [] xs i b = refl
  get-in_order (place ∷ places) xs zero b =
      let h = head-of place places xs b.0 in ap (λ l. slice_get l 0) h.1.1 ∙ sym h.1.0
  get-in_order (place ∷ places) xs (suc i) b =
      ap (λ l. slice_get l (suc i)) (head-of place places xs b.0).1.1 ∙ get-in_order places xs i b.1

  -- the same items stand at the places
  pub in_order-same : (f : ℕ → ℕ) (places : List ℕ) (xs ys : List X)
      → ((place : ℕ) → list_any (nat_eq place) places ≡ true
      → slice_get ys (f place) ≡ slice_get xs place)
      → in_order (map f places) ys ≡ in_order places xs
  in_order-same f [] xs ys h = refl
  in_order-same f (place ∷ places) xs ys h =
      ap (λ o. option_to_list o ++ in_order (map f places) ys)
      (h place (rw (same_number place) refl))
      ∙ ap (λ l. option_to_list (slice_get xs place) ++ l)
      (in_order-same f places xs ys (λ p q. h p (later p place q)))
    where
      later : (p place : ℕ) → list_any (nat_eq p) places ≡ true
          → (nat_eq p place || list_any (nat_eq p) places) ≡ true
      later p place q = elim (cases_Bool (nat_eq p place)) [ inl k ↦ rw k refl | inr k ↦ rw k q ]

  pub in_order-push : (places : List ℕ) (xs : List X) (x : X) → AllBelow (length xs) places
      → in_order (places ++ length xs ∷ []) (xs ++ x ∷ []) ≡ in_order places xs ++ x ∷ []
  in_order-push [] xs x b = first-of (slice_get (xs ++ x ∷ []) (length xs)) [] x (get-last xs x)
  in_order-push (place ∷ places) xs x b =
      let h = head-of place places xs b.0 in
      first-of (slice_get (xs ++ x ∷ []) place) (in_order (places ++ length xs ∷ []) (xs ++ x ∷ []))
      h.0 (get-before xs x h.0 place h.1.0)
      ∙ (ap (λ l. h.0 ∷ l) (in_order-push places xs x b.1) ∙ ap (λ l. l ++ x ∷ []) (sym h.1.1))

  pub in_order-map : {Y : Type 0} (f : X → Y) (places : List ℕ) (xs : List X)
      → in_order places (map f xs) ≡ map f (in_order places xs)
  in_order-map f [] xs = refl
  in_order-map f (place ∷ places) xs =
      ap (λ o. option_to_list o ++ in_order places (map f xs)) (slice_get-map f xs place)
      ∙ (ap (λ l. option_to_list (option_map f (slice_get xs place)) ++ l)
      (in_order-map f places xs) ∙ join (slice_get xs place))
    where
      join : (o : Option X) → option_to_list (option_map f o) ++ map f (in_order places xs)
          ≡ map f (option_to_list o ++ in_order places xs)
      join None = refl
      join (Some x) = refl

among-filtered : (n p q : ℕ) (places : List ℕ) → AllBelow n places
    → list_any (nat_eq q) (filter (λ place. not (nat_eq place p)) places) ≡ true
    → (q ≡ p → ⊥) × (q < n)
among-filtered n p q [] b h = absurd (true≢false (sym h))
among-filtered n p q (place ∷ places) b h =
    elim (cases_Bool (nat_eq place p)) [
      | inl k ↦ among-filtered n p q places b.1 (rw k at h)
      | inr k ↦ here k (rw k at h) (among-filtered n p q places b.1)
    ]
  where
    here : nat_eq place p ≡ false
        → (nat_eq q place || list_any (nat_eq q) (filter (λ place. not (nat_eq place p)) places))
        ≡ true
        → (list_any (nat_eq q) (filter (λ place. not (nat_eq place p)) places) ≡ true
        → (q ≡ p → ⊥) × (q < n)) → (q ≡ p → ⊥) × (q < n)
    here k h rest = elim (cases_Bool (nat_eq q place)) [
      | inl e ↦
          let is = eqb-true q place e in (
            (λ same. true≢false (sym (same_number p) ∙ (ap (λ x. nat_eq x p) (sym same ∙ is) ∙ k))),
            subst (λ x. x < n) (sym is) b.0,
          )
      | inr e ↦ rest (rw e at h)
    ]

-- ---- keys that differ

module _ {K V : Type 0} (test : K → Bool) where
  -- no key passes the test
  pub record HasNone (es : List (K × V)) : Type 0 where
    pub value : lookup test es ≡ None
    pub others : (p : ℕ) (e : K × V) → slice_get es p ≡ Some e → test e.0 ≡ false

  -- the key at this place alone passes the test
  pub record HasOne (es : List (K × V)) (place : ℕ) : Type 0 where
    pub entry : K × V
    pub at : slice_get es place ≡ Some entry
    pub passes : test entry.0 ≡ true
    pub value : lookup test es ≡ Some entry.1
    pub others : (p : ℕ) (e : K × V) → slice_get es p ≡ Some e → (p ≡ place → ⊥) → test e.0 ≡ false

  -- ---- no key passes

  absent-in_order : (places : List ℕ) (es : List (K × V)) → HasNone es
      → lookup test (in_order places es) ≡ None
  absent-in_order [] es h = refl
  absent-in_order (place ∷ places) es h =
      go (slice_get es place) (λ e at. h.others place e at) (absent-in_order places es h)
    where
      go : (o : Option (K × V)) → ((e : K × V) → o ≡ Some e → test e.0 ≡ false)
          → lookup test (in_order places es) ≡ None
          → lookup test (option_to_list o ++ in_order places es) ≡ None
      go None f rest = rest
      go (Some e) f rest = rw (f e refl) rest

  -- ---- one does

  there-in_order : (places : List ℕ) (es : List (K × V)) (p : ℕ) (h : HasOne es p)
      → list_any (nat_eq p) places ≡ true → AllBelow (length es) places
      → lookup test (in_order places es) ≡ Some h.entry.1
  there-in_order [] es p h n b = absurd (true≢false (sym n))
  there-in_order (place ∷ places) es p h n b =
      let head = head-of place places es b.0 in
      ap (lookup test) head.1.1
      ∙ elim (cases_eq place p) [
        | inl same ↦
            let is = same_Some head.0 h.entry (sym head.1.0 ∙ (ap (slice_get es) same ∙ h.at)) in
            rw (ap (λ e. test e.0) is ∙ h.passes) (ap (λ e. Some e.1) is)
        | inr other ↦
            let left : list_any (nat_eq p) places ≡ true =
            rw (other_number p place (λ k. other (sym k))) at n in
            rw (h.others place head.0 head.1.0 other) (there-in_order places es p h left b.1)
      ]

  pub filtered-in_order : (places : List ℕ) (es : List (K × V)) (p : ℕ) → HasOne es p
      → AllBelow (length es) places
      → in_order (filter (λ place. not (nat_eq place p)) places) es
      ≡ filter (λ e. not (test e.0)) (in_order places es)
  filtered-in_order [] es p h b = refl
  filtered-in_order (place ∷ places) es p h b =
      let head = head-of place places es b.0 in
      elim (cases_eq place p) [
        | inl same ↦
            let is = same_Some head.0 h.entry (sym head.1.0 ∙ (ap (slice_get es) same ∙ h.at)) in
            rw (
              head.1.1,
              ap (nat_eq place) (sym same) ∙ same_number place,
              ap (λ e. test e.0) is ∙ h.passes,
            ) (filtered-in_order places es p h b.1)
        | inr other ↦
            rw (other_number place p other)
            (kept head.0 head.1.0 other head.1.1 (filtered-in_order places es p h b.1))
      ]
    where
      kept : (e : K × V) → slice_get es place ≡ Some e → (place ≡ p → ⊥)
          → in_order (place ∷ places) es ≡ e ∷ in_order places es
          → in_order (filter (λ place. not (nat_eq place p)) places) es
          ≡ filter (λ e. not (test e.0)) (in_order places es)
          → in_order (place ∷ filter (λ place. not (nat_eq place p)) places) es
          ≡ filter (λ e. not (test e.0)) (in_order (place ∷ places) es)
      kept e at other is rest =
          first-of (slice_get es place)
          (in_order (filter (λ place. not (nat_eq place p)) places) es) e at
          ∙ (ap (λ l. e ∷ l) rest ∙ sym (ap (filter (λ e. not (test e.0))) is
          ∙ rw (h.others place e at other) refl))

module _ {K V : Type 0} (eq : K → K → Bool) (test : K → Bool) (one : IsKeyTest eq test) where
  all-at : (P : K → Type 0) (es : List (K × V)) (p : ℕ) (e : K × V) → AllByRecursion P (keys_of es)
      → slice_get es p ≡ Some e → P e.0
  all-at P [] p e h at = absurd (none-some e at)
  all-at P (x ∷ es) zero e h at = subst (λ y. P y.0) (same_Some x e at) h.0
  all-at P (x ∷ es) (suc p) e h at = all-at P es p e h.1 at

  -- after a key that passes, none does
  none-after : (e : K × V) (es : List (K × V)) → test e.0 ≡ true
      → AllByRecursion (λ y. eq e.0 y ≡ false) (keys_of es) → (p : ℕ) (x : K × V)
      → slice_get es p ≡ Some x → test x.0 ≡ false
  none-after e es passes h p x at = one e.0 x.0 passes ∙ all-at (λ y. eq e.0 y ≡ false) es p x h at

  pub search-keys : (es : List (K × V)) → IsDistinct eq (keys_of es)
      → HasNone test es ⊎ ((p : ℕ) × HasOne test es p)
  unfolding IsDistinct
  search-keys [] d = inl (record { value = refl; others = λ p e at. absurd (none-some e at) })
  search-keys (e ∷ es) d =
      elim (cases_Bool (test e.0)) [
        | inl q ↦ inr (
          0,
          record {
            entry = e;
            at = refl;
            passes = q;
            value = rw q refl;
            others = λ p x at n. first p x at n q;
          },
        )
        | inr q ↦ elim (search-keys es d.1) [
          | inl h ↦ inl (record { value = rw q h.value; others = λ p x at. none p x at q h })
          | inr h ↦ inr (
            suc h.0,
            record {
              entry = h.1.entry;
              at = h.1.at;
              passes = h.1.passes;
              value = rw q h.1.value;
              others = λ p x at n. later p x at n q h.1;
            },
          )
        ]
      ]
    where
      first : (p : ℕ) (x : K × V) → slice_get (e ∷ es) p ≡ Some x → (p ≡ 0 → ⊥) → test e.0 ≡ true
          → test x.0 ≡ false
      first zero x at n q = absurd (n refl)
      first (suc p) x at n q = none-after e es q d.0 p x at

      none : (p : ℕ) (x : K × V) → slice_get (e ∷ es) p ≡ Some x → test e.0 ≡ false
          → HasNone test es → test x.0 ≡ false
      none zero x at q h = ap (λ y. test y.0) (sym (same_Some e x at)) ∙ q
      none (suc p) x at q h = h.others p x at

      later : (p : ℕ) (x : K × V) → slice_get (e ∷ es) p ≡ Some x → {i : ℕ} → (p ≡ suc i → ⊥)
          → test e.0 ≡ false → HasOne test es i → test x.0 ≡ false
      later zero x at n q h = ap (λ y. test y.0) (sym (same_Some e x at)) ∙ q
      later (suc p) x at n q h = h.others p x at (λ k. n (ap suc k))

  -- a look-up does not depend on the order
  pub lookup-in_order : (places : List ℕ) (es : List (K × V)) → IsOrder places (length es)
      → IsDistinct eq (keys_of es) → lookup test es ≡ lookup test (in_order places es)
  lookup-in_order places es o d = elim (search-keys es d) [
    | inl h ↦ h.value ∙ sym (absent-in_order test places es h)
    | inr h ↦ h.1.value ∙ sym (there-in_order test places es h.0 h.1
        (o.each h.0 (slice_get_within es h.0 h.1.entry h.1.at)) o.below)
  ]

  -- ---- one entry is changed or taken out

  pub filter-removed : (es : List (K × V)) → IsDistinct eq (keys_of es)
      → filter (λ e. not (test e.0)) es ≡ remove_entry test es
  unfolding IsDistinct
  filter-removed [] d = refl
  filter-removed (e ∷ es) d =
      elim (cases_Bool (test e.0)) [
        | inl q ↦ rw q (all es (none-after e es q d.0))
        | inr q ↦ rw q (ap (λ l. e ∷ l) (filter-removed es d.1))
      ]
    where
      all : (es : List (K × V)) → ((p : ℕ) (x : K × V) → slice_get es p ≡ Some x → test x.0 ≡ false)
          → filter (λ e. not (test e.0)) es ≡ es
      all [] h = refl
      all (x ∷ es) h = rw (h 0 x refl) (ap (λ l. x ∷ l) (all es (λ p. h (suc p))))

  pub remove-absent : (es : List (K × V)) → lookup test es ≡ None → remove_entry test es ≡ es
  remove-absent [] h = refl
  remove-absent (e ∷ es) h = elim (cases_Bool (test e.0)) [
    | inl q ↦ absurd (none-some e.1 (sym (rw q at h)))
    | inr q ↦ rw q (ap (λ l. e ∷ l) (remove-absent es (rw q at h)))
  ]

  abbrev wrote : V → K × V → K × V
  wrote w e = (e.0, if test e.0 then w else e.1)

  pub map-written : (w : V) (es : List (K × V)) → IsDistinct eq (keys_of es)
      → map (wrote w) es ≡ set_value test es w
  unfolding IsDistinct
  map-written w [] d = refl
  map-written w (e ∷ es) d =
      elim (cases_Bool (test e.0)) [
        | inl q ↦ rw q (ap (λ l. (e.0, w) ∷ l) (all es (none-after e es q d.0)))
        | inr q ↦ rw q (ap (λ l. e ∷ l) (map-written w es d.1))
      ]
    where
      all : (es : List (K × V)) → ((p : ℕ) (x : K × V) → slice_get es p ≡ Some x → test x.0 ≡ false)
          → map (wrote w) es ≡ es
      all [] h = refl
      all (x ∷ es) h = rw (h 0 x refl) (ap (λ l. x ∷ l) (all es (λ p. h (suc p))))

-- ---- the keys in order differ

module _ {K V : Type 0} (eq : K → K → Bool) (laws : IsEquivalence eq) where
  apart : (es : List (K × V)) (i j : ℕ) (a b : K × V) → IsDistinct eq (keys_of es)
      → slice_get es i ≡ Some a → slice_get es j ≡ Some b → (i ≡ j → ⊥) → eq a.0 b.0 ≡ false
  unfolding IsDistinct
  apart [] i j a b d at bt n = absurd (none-some a at)
  apart (e ∷ es) zero zero a b d at bt n = absurd (n refl)
  apart (e ∷ es) zero (suc j) a b d at bt n =
      ap (λ x. eq x.0 b.0) (sym (same_Some e a at))
      ∙ all-at eq (eq e.0) (laws.congr e.0) (λ y. eq e.0 y ≡ false) es j b d.0 bt
  apart (e ∷ es) (suc i) zero a b d at bt n =
      laws.symm a.0 b.0 ∙ (ap (λ x. eq x.0 a.0) (sym (same_Some e b bt))
      ∙ all-at eq (eq e.0) (laws.congr e.0) (λ y. eq e.0 y ≡ false) es i a d.0 at)
  apart (e ∷ es) (suc i) (suc j) a b d at bt n = apart es i j a b d.1 at bt (λ k. n (ap suc k))

  none-equal : (es : List (K × V)) (place : ℕ) (e : K × V) → IsDistinct eq (keys_of es)
      → slice_get es place ≡ Some e
      → (places : List ℕ) → list_any (nat_eq place) places ≡ false → AllBelow (length es) places
      → AllByRecursion (λ y. eq e.0 y ≡ false) (keys_of (in_order places es))
  none-equal es place e d at [] n b = tt
  none-equal es place e d at (p ∷ places) n b =
      let head = head-of p places es b.0 in
      let parts = or_parts (nat_eq place p) _ n in
      subst (λ l. AllByRecursion (λ y. eq e.0 y ≡ false) (keys_of l)) (sym head.1.1) (
        apart es place p e head.0 d at head.1.0
            (λ k. true≢false (sym (ap (nat_eq place) (sym k) ∙ same_number place) ∙ parts.0)),
        none-equal es place e d at places parts.1 b.1,
      )

  pub distinct-in_order : (places : List ℕ) (es : List (K × V)) → AllDiffer places
      → AllBelow (length es) places → IsDistinct eq (keys_of es)
      → IsDistinct eq (keys_of (in_order places es))
  unfolding IsDistinct
  distinct-in_order [] es u b d = tt
  distinct-in_order (place ∷ places) es u b d =
      let head = head-of place places es b.0 in
      subst (λ l. IsDistinct eq (keys_of l)) (sym head.1.1) (
        none-equal es place head.0 d head.1.0 places u.0 b.1,
        distinct-in_order places es u.1 b.1 d,
      )

  module _ (test : K → Bool) (one : IsKeyTest eq test) (places : List ℕ) (es : List (K × V))
      (o : IsOrder places (length es)) (d : IsDistinct eq (keys_of es)) where
    pub set-in_order : (w : V)
        → in_order places (set_value test es w) ≡ set_value test (in_order places es) w
    set-in_order w =
        ap (in_order places) (sym (map-written eq test one w es d))
        ∙ (in_order-map (wrote eq test one w) places es
        ∙ map-written eq test one w (in_order places es)
        (distinct-in_order places es o.differ o.below d))

    -- the place that a search finds
    same-place : (p q : ℕ) → position test (keys_of es) ≡ Some p → HasOne test es q → q ≡ p
    same-place p q at h =
        let found = position-Some test (keys_of es) p h.entry.0 at in
        let e = within es p (subst (λ n. p < n) (length-map es (λ e. e.0)) found.0) in
        let key : get_or (keys_of es) p h.entry.0 ≡ e.0.0 =
        get_or_from_slice_get (keys_of es) p e.0.0 h.entry.0
        (slice_get-map (λ x. x.0) es p ∙ ap (option_map (λ x. x.0)) e.1) in
        elim (cases_eq p q) [
          | inl is ↦ sym is
          | inr other ↦ absurd (true≢false (sym found.1 ∙ (ap test key ∙ h.others p e.0 e.1 other)))
        ]

    -- an entry leaves, the last takes its place in the map, and each keeps its place in the order
    pub removed-in_order : (p : ℕ) (v : V) → position test (keys_of es) ≡ Some p
        → lookup test es ≡ Some v
        → in_order (without_place p places) (swap_remove_entry test es)
        ≡ remove_entry test (in_order places es)
    removed-in_order p v at there = elim (search-keys eq test one es d) [
      | inl h ↦ absurd (none-some v (sym h.value ∙ there))
      | inr h ↦ removed (subst (HasOne test es) (same-place p h.0 at h.1) h.1)
    ]
      where
        stays : (d : K × V) → p < length es → (q : ℕ)
            → list_any (nat_eq q) (filter (λ place. not (nat_eq place p)) places) ≡ true
            → slice_get (swap_remove es p d) (moved (length places - 1) p q) ≡ slice_get es q
        stays d inside q n =
            let left = among-filtered (length es) p q places o.below n in
            elim (cases_eq q (length places - 1)) [
              | inl same ↦
                  ap (λ k. slice_get (swap_remove es p d) (moved (length places - 1) p k)) same
                  ∙ (ap (slice_get (swap_remove es p d)) (moved-last (length places - 1) p)
                  ∙ (get-swapped es p d (further (length places) (length es) p q o.count same left.0
                  inside) ∙ ap (slice_get es) (sym (same ∙ ap (λ n. n - 1) o.count))))
              | inr other ↦
                  ap (slice_get (swap_remove es p d)) (moved-other (length places - 1) p q other)
                  ∙ get-unswapped es p q d left.0 (omega (arith, left.1, other, o.count))
            ]
          where
            further : (a b p q : ℕ) → a ≡ b → q ≡ a - 1 → (q ≡ p → ⊥) → p < b → p + 1 < b
            further a b p q count same n inside = elim (cases_eq (p + 1) b) [
              | inl e ↦ absurd (n (omega (arith, e, same, count)))
              | inr m ↦ omega (arith, m, inside)
            ]

        removed : HasOne test es p
            → in_order (without_place p places) (swap_remove_entry test es)
            ≡ remove_entry test (in_order places es)
        removed h =
            let kept = filter (λ place. not (nat_eq place p)) places in
            ap (in_order (without_place p places)) (swap_remove_entry-found test es p h.entry at)
            ∙ (in_order-same (moved (length places - 1) p) kept es (swap_remove es p h.entry)
            (stays h.entry (slice_get_within es p h.entry h.at))
            ∙ (filtered-in_order test places es p h o.below
            ∙ filter-removed eq test one (in_order places es)
            (distinct-in_order places es o.differ o.below d)))

-- ---- keys that are texts

same_text : (a b : List ℕ) → bytes_eq a b ≡ true → a ≡ b
same_text a b h = (bytes_eq-Decides a b).0 h

pub text_test : (text : List ℕ) → IsKeyTest string_eq (is_text text)
text_test text x y p = ap (λ t. bytes_eq t (string_bytes y)) (same_text text (string_bytes x) p)
