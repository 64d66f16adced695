-- What a stable sort makes of a list is the list in order.
use Rattle.std.specs.Prelude.{filter, if◌then◌else◌, map, not, ◌&&◌, slice_index_or}
use Rattle.std.specs.Cmp.{IsStrictWeakOrder}
use Rattle.std.specs.List.Sorted.{IsSortedBy, IsStableBy, ties}
use Rattle.std.proofs.Common.{◌≡◌, ◌≤◌, ◌<◌, ◌+◌, ℕ, zero, suc, Bool, true, false, List, [], ◌∷◌}
use Rattle.std.proofs.Common.{length, refl, sym, ap, subst, ◌∙◌, arith, inl, inr}
use Rattle.std.proofs.lemmas.Bool.{and_parts, cases_Bool, true≢false}
use Rattle.lsp_notes.specs.AtOnce.{put_by, sorted_by}

-- ---- the elements that a test keeps

module _ {X : Type 0} (p : X → Bool) (y : X) (ys : List X) where
  kept : p y ≡ true → filter p (y ∷ ys) ≡ y ∷ filter p ys
  kept is = ap (λ (b : Bool). if b then y ∷ filter p ys else filter p ys) is

  dropped : p y ≡ false → filter p (y ∷ ys) ≡ filter p ys
  dropped is = ap (λ (b : Bool). if b then y ∷ filter p ys else filter p ys) is

module _ {X : Type 0} (before : X → X → Bool) (order : IsStrictWeakOrder before) where
  abbrev alike : X → X → Bool
  alike = ties before

  no_self : (x : X) → before x x ≡ false
  no_self x = elim (cases_Bool (before x x)) [
    | inl is ↦ order.one_way x x is
    | inr is ↦ is
  ]

  not_so : (b : Bool) → not b ≡ true → b ≡ false
  not_so true is = absurd (true≢false (sym is))
  not_so false is = refl

  alike_parts : (x y : X) → alike x y ≡ true → (before x y ≡ false) × (before y x ≡ false)
  alike_parts x y is =
      let parts = and_parts (not (before x y)) (not (before y x)) is in
      (not_so (before x y) parts.0, not_so (before y x) parts.1)

  alike_from : (x y : X) → before x y ≡ false → before y x ≡ false → alike x y ≡ true
  alike_from x y a b = λ i. not (a i) && not (b i)

  -- ---- in order

  -- none of these comes before it
  abbrev AreBehind : X → List X → Type 0
  AreBehind x [] = Unit {0}
  AreBehind x (y ∷ ys) = (before y x ≡ false) × AreBehind x ys

  abbrev Rises : List X → Type 0
  Rises [] = Unit {0}
  Rises (y ∷ ys) = AreBehind y ys × Rises ys

  still_behind : (x y : X) (ys : List X) → before y x ≡ false → AreBehind y ys → AreBehind x ys
  still_behind x y [] is all = tt
  still_behind x y (z ∷ zs) is all =
      (order.chain z y x all.0 is, still_behind x y zs is all.1)

  rises : (ys : List X) → IsSortedBy before ys → Rises ys
  rises [] sorted = tt
  rises (y ∷ []) sorted = (tt, tt)
  rises (y ∷ z ∷ zs) sorted =
      let later = rises (z ∷ zs) (λ k d from lt. subst
      (λ (n : ℕ). before (slice_index_or (y ∷ z ∷ zs) n d) (slice_index_or (z ∷ zs) k d) ≡ false)
      (next k) (sorted (suc k) d (omega arith) (omega (arith, lt)))) in
      let first : before z y ≡ false = sorted 0 y (omega arith) (omega arith) in
      ((first, still_behind y z zs first later.0), later)
    where
      next : (k : ℕ) → suc k + 1 ≡ suc (k + 1)
      next k = omega arith

  put_behind : (x y : X) (ys : List X) → before y x ≡ false → AreBehind x ys
      → AreBehind x (put_by before y ys)
  put_behind x y [] is all = (is, tt)
  put_behind x y (z ∷ zs) is all = by_test (before z y) (put_behind x y zs is all.1)
    where
      by_test : (b : Bool) → AreBehind x (put_by before y zs)
          → AreBehind x (if b then z ∷ put_by before y zs else y ∷ z ∷ zs)
      by_test true later = (all.0, later)
      by_test false later = (is, all)

  put_rises : (x : X) (ys : List X) → Rises ys → Rises (put_by before x ys)
  put_rises x [] all = (tt, tt)
  put_rises x (y ∷ ys) all = by_test (before y x) refl (put_rises x ys all.1)
    where
      by_test : (b : Bool) → before y x ≡ b → Rises (put_by before x ys)
          → Rises (if b then y ∷ put_by before x ys else x ∷ y ∷ ys)
      by_test true is later = (put_behind y x ys (order.one_way y x is) all.0, later)
      by_test false is later = ((is, still_behind x y ys is all.0), all)

  sorted_rises : (xs : List X) → Rises (sorted_by before xs)
  sorted_rises [] = tt
  sorted_rises (x ∷ xs) = put_rises x (sorted_by before xs) (sorted_rises xs)

  -- ---- those that are alike stay as they are

  put_alike : (x y : X) (ys : List X)
      → filter (alike x) (put_by before y ys) ≡ filter (alike x) (y ∷ ys)
  put_alike x y [] = refl
  put_alike x y (z ∷ zs) = by_test (before z y) refl (put_alike x y zs)
    where
      by_test : (b : Bool) → before z y ≡ b
          → filter (alike x) (put_by before y zs) ≡ filter (alike x) (y ∷ zs)
          → filter (alike x) (if b then z ∷ put_by before y zs else y ∷ z ∷ zs)
          ≡ filter (alike x) (y ∷ z ∷ zs)
      by_test false is later = refl
      by_test true is later = elim (cases_Bool (alike x z)) [
        | inr without ↦
            dropped (alike x) z (put_by before y zs) without ∙ later
            ∙ ap (λ (l : List X). if alike x y then y ∷ l else l)
            (sym (dropped (alike x) z zs without))
        | inl with ↦
            elim (cases_Bool (alike x y)) [
              | inl both ↦
                  absurd (true≢false (sym is ∙ order.chain z x y (alike_parts x z with).1
                  (alike_parts x y both).0))
              | inr only ↦
                  kept (alike x) z (put_by before y zs) with
                  ∙ ap (λ l. z ∷ l) (later ∙ dropped (alike x) y zs only)
                  ∙ sym (dropped (alike x) y (z ∷ zs) only ∙ kept (alike x) z zs with)
            ]
      ]

  sorted_alike : (x : X) (xs : List X)
      → filter (alike x) (sorted_by before xs) ≡ filter (alike x) xs
  sorted_alike x [] = refl
  sorted_alike x (y ∷ xs) =
      put_alike x y (sorted_by before xs)
      ∙ ap (λ (l : List X). if alike x y then y ∷ l else l) (sorted_alike x xs)

  -- ---- two lists in order, of which those that are alike are the same

  found_behind : (n x : X) (ys : List X) (w : X) (ws : List X) → AreBehind n ys
      → filter (alike x) ys ≡ w ∷ ws → before x n ≡ false
  found_behind n x [] w ws all is = absurd (cc is)
  found_behind n x (y ∷ ys) w ws all is = elim (cases_Bool (alike x y)) [
    | inl with ↦ order.chain x y n (alike_parts x y with).0 all.0
    | inr without ↦
        found_behind n x ys w ws all.1 (sym (dropped (alike x) y ys without) ∙ is)
  ]

  same_lists : (ys zs : List X) → Rises ys → Rises zs
      → ((x : X) → filter (alike x) ys ≡ filter (alike x) zs) → ys ≡ zs
  same_lists [] [] left right same = refl
  same_lists [] (z ∷ zs) left right same =
      let clash = same z ∙ kept (alike z) z zs (alike_from z z (no_self z) (no_self z)) in
      absurd (cc clash)
  same_lists (y ∷ ys) [] left right same =
      let clash = sym (same y) ∙ kept (alike y) y ys (alike_from y y (no_self y) (no_self y)) in
      absurd (cc clash)
  same_lists (y ∷ ys) (z ∷ zs) left right same =
      let at_y = kept (alike y) y ys (alike_from y y (no_self y) (no_self y)) in
      let at_z = kept (alike z) z zs (alike_from z z (no_self z) (no_self z)) in
      let up = found_behind z y (z ∷ zs) y _ (no_self z, right.0) (sym (same y) ∙ at_y) in
      let down = found_behind y z (y ∷ ys) z _ (no_self y, left.0) (same z ∙ at_z) in
      let heads = sym at_y ∙ same y ∙ kept (alike y) z zs (alike_from y z up down) in
      let head : y ≡ z = cc heads in
      let tails : (x : X) → filter (alike x) ys ≡ filter (alike x) zs = λ x.
      elim (cases_Bool (alike x y)) [
        | inl with ↦
            let both = sym (kept (alike x) y ys with) ∙ same x
            ∙ kept (alike x) z zs (ap (alike x) (sym head) ∙ with) in cc both
        | inr without ↦
            sym (dropped (alike x) y ys without) ∙ same x
            ∙ dropped (alike x) z zs (ap (alike x) (sym head) ∙ without)
      ] in
      ap (λ w. w ∷ ys) head ∙ ap (λ l. z ∷ l) (same_lists ys zs left.1 right.1 tails)

  -- **what a stable sort makes of a list**
  pub sorted_is : (xs ys : List X) → IsSortedBy before ys → IsStableBy before xs ys
      → ys ≡ sorted_by before xs
  sorted_is xs ys sorted stable =
      same_lists ys (sorted_by before xs) (rises ys sorted) (sorted_rises xs)
      (λ x. stable x ∙ sym (sorted_alike x xs))

-- ---- the same of what elements stand for

module _ {X Y : Type 0} (view : X → Y) (before : Y → Y → Bool) where
  abbrev by_view : X → X → Bool
  by_view a b = before (view a) (view b)

  put_view : (x : X) (ys : List X)
      → map view (put_by by_view x ys) ≡ put_by before (view x) (map view ys)
  put_view x [] = refl
  put_view x (y ∷ ys) = by_test (before (view y) (view x)) (put_view x ys)
    where
      by_test : (b : Bool)
          → map view (put_by by_view x ys) ≡ put_by before (view x) (map view ys)
          → map view (if b then y ∷ put_by by_view x ys else x ∷ y ∷ ys)
          ≡ (if b then view y ∷ put_by before (view x) (map view ys)
          else view x ∷ view y ∷ map view ys)
      by_test true later = ap (λ l. view y ∷ l) later
      by_test false later = refl

  pub sorted_view : (xs : List X)
      → map view (sorted_by by_view xs) ≡ sorted_by before (map view xs)
  sorted_view [] = refl
  sorted_view (x ∷ xs) =
      put_view x (sorted_by by_view xs) ∙ ap (put_by before (view x)) (sorted_view xs)
