-- The texts of a queue, kept by version, beside the snapshots that they stand for.
use Rattle.std.proofs.Common.{◌≡◌, ℕ, ◌+◌, Bool, true, false, ◌||◌, List, [], ◌∷◌, ◌++◌, map}
use Rattle.std.proofs.Common.{filter, length, refl, sym, ap, ◌∙◌, inl, inr, arith, true≢false}
use Rattle.std.proofs.Common.{Option, Some, None, length-append, append_assoc, append-nil, subst}
use Rattle.std.proofs.Common.{◌⊎◌}
use Rattle.std.proofs.lemmas.Int.{ints}
use Rattle.std.proofs.lemmas.Option.{none-some}
use Rattle.std.proofs.lemmas.List.Folds.{list_any-append}
use Rattle.std.specs.Prelude.{ℤ, int_lt, min, ◌-◌, ◌^◌, unwrap_or}
use Rattle.std.specs.List.{list_any, AllByRecursion}
use Rattle.std.specs.List.Sorted.{IsStrictlySortedBy}
use Rattle.std.specs.Map.{lookup, set_value, keys_of}
use Rattle.std.specs.declared.cmp.Ordering.{Ordering}
use Rattle.std.specs.Ordering.{int_eq, int_cmp, is_lt, is_eq, match_ordering}
use Rattle.std.specs.declared.cmp.Ordering.TheVariants.{Less, Equal, Greater}
use Rattle.std.specs.BTreeMap.{insert_entry}
use Rattle.lsp_docs.specs.Calls.{Text}
use Rattle.lsp_docs.specs.Documents.{Version, versioned, is_after, is_at, is_before}
use Rattle.lsp_docs.specs.Snapshots.{texts_at}
use Rattle.lsp_docs.specs.State.{SameOrder, capped}
use Rattle.lsp_docs.specs.Stored.{versions_in, is_first_within, rest_of, first_before}
use Rattle.std.proofs.lemmas.Bool.Decides.{Decides-int_eq}
use Rattle.std.proofs.lemmas.Bool.{cases_Bool, not-true, not-false}
use Rattle.std.proofs.lemmas.List.Elements.{filter-append}
use Rattle.std.proofs.lemmas.List.{map-append, length-map}
use Rattle.std.proofs.Math.Bool.{or-false}
use Rattle.lsp_docs.proofs.Words.{int_is, lt_trans, less_behind}
use Rattle.lsp_docs.proofs.Queues.{rest_of as rest_of_entry, head_is, not_head}
use Rattle.lsp_docs.proofs.SameVersions.{count-append}

abbrev Entries : Type 0
Entries = List (ℤ × List Text)

-- ---- numbers

less_is : (a b : ℤ) → is_lt (int_cmp a b) ≡ int_lt a b
less_is a b =
    elim (cases_Bool (int_lt a b)) [
      | inl p ↦ rw p refl
      | inr p ↦ rw p (elim (cases_Bool (int_lt b a)) [ inl q ↦ rw q refl | inr q ↦ rw q refl ])
    ]

lt_of : (a b : ℤ) → int_cmp a b ≡ Less → int_lt a b ≡ true
lt_of a b h = sym (less_is a b) ∙ ap is_lt h

irreflexive : (v : ℤ) → int_lt v v ≡ false
irreflexive v = grind (arith, ints)

past : (a b c : ℤ) → int_lt a b ≡ true → int_lt b c ≡ true → int_lt c a ≡ false
past a b c h k = grind (arith, ints)

pub apart : (a b : ℤ) → int_lt a b ≡ true → int_eq a b ≡ false
apart a b h =
    elim (cases_Bool (int_eq a b)) [
      | inl p ↦ absurd (true≢false (sym h ∙ (ap (λ x. int_lt x b) (int_is a b p) ∙ irreflexive b)))
      | inr p ↦ p
    ]

-- ---- the keys ascend

abbrev Above : ℤ → Entries → Type 0
Above k es = AllByRecursion (λ y. int_cmp k y ≡ Less) (keys_of es)

pub head_above : (e : ℤ × List Text) (es : Entries) → IsStrictlySortedBy int_cmp (keys_of (e ∷ es))
    → Above e.0 es
unfolding IsStrictlySortedBy
head_above e es h = h.0

pub tail_sorted : (e : ℤ × List Text) (es : Entries) → IsStrictlySortedBy int_cmp (keys_of (e ∷ es))
    → IsStrictlySortedBy int_cmp (keys_of es)
unfolding IsStrictlySortedBy
tail_sorted e es h = h.1

-- ---- whether one waits

module _ (n : ℤ) (q : Text → Bool) (test : Version → Bool)
    (here : (t : Text) → test (versioned n t) ≡ q t)
    (there : (v : Version) → int_eq n v.number ≡ false → test v ≡ false) where
  abbrev found : Option (List Text) → Bool
  found None = false
  found (Some ts) = list_any q ts

  any_here : (ts : List Text) → list_any test (map (versioned n) ts) ≡ list_any q ts
  any_here [] = refl
  any_here (t ∷ ts) = ap (λ b. b || list_any test (map (versioned n) ts)) (here t)
      ∙ ap (λ b. q t || b) (any_here ts)

  any_away : (k : ℤ) (ts : List Text) → int_eq n k ≡ false
      → list_any test (map (versioned k) ts) ≡ false
  any_away k [] e = refl
  any_away k (t ∷ ts) e = ap (λ b. b || list_any test (map (versioned k) ts))
      (there (versioned k t) e) ∙ any_away k ts e

  any_above : (es : Entries) → Above n es → list_any test (versions_in es) ≡ false
  any_above [] h = refl
  any_above (e ∷ es) h =
      list_any-append test (map (versioned e.0) e.1) (versions_in es)
      ∙ (ap (λ b. b || list_any test (versions_in es))
      (any_away e.0 e.1 (apart n e.0 (lt_of n e.0 h.0))) ∙ any_above es h.1)

  head_found : (k : ℤ) (ts : List Text) (es : Entries) → n ≡ k → Above k es
      → list_any test (map (versioned k) ts) || list_any test (versions_in es) ≡ list_any q ts
  head_found k ts es e h =
      rw (← e) (ap (λ b. list_any test (map (versioned n) ts) || b)
      (any_above es (subst_above es e h))
      ∙ (or-false (list_any test (map (versioned n) ts)) ∙ any_here ts))
    where
      subst_above : (es : Entries) → n ≡ k → Above k es → Above n es
      subst_above es e h = subst (λ x. Above x es) (sym e) h

  -- a test on the snapshots of one version looks at that version's texts alone
  pub any_found : (es : Entries) → IsStrictlySortedBy int_cmp (keys_of es)
      → list_any test (versions_in es) ≡ found (lookup (int_eq n) es)
  any_found [] h = refl
  any_found (e ∷ es) h =
      list_any-append test (map (versioned e.0) e.1) (versions_in es)
      ∙ elim (cases_Bool (int_eq n e.0)) [
        | inl p ↦ rw p (head_found e.0 e.1 es (int_is n e.0 p) (head_above e es h))
        | inr p ↦ rw p (ap (λ b. b || list_any test (versions_in es)) (any_away e.0 e.1 p)
            ∙ any_found es (tail_sorted e es h))
      ]

eq_same : (n : ℤ) → int_eq n n ≡ true
eq_same n = (Decides-int_eq n n).1 refl

pub eq_flip : (a b : ℤ) → int_eq a b ≡ false → int_eq b a ≡ false
eq_flip a b h =
    elim (cases_Bool (int_eq b a)) [
      | inl p ↦ absurd (true≢false (sym (eq_same b) ∙ (ap (λ x. int_eq x b) (int_is b a p) ∙ h)))
      | inr p ↦ p
    ]

due_found : (n : ℤ) (es : Entries) → IsStrictlySortedBy int_cmp (keys_of es)
    → list_any (is_at n) (versions_in es)
    ≡ found n (λ _. true) (is_at n) (λ t. eq_same n) (λ v e. eq_flip n v.number e)
    (lookup (int_eq n) es)
due_found n es h = any_found n (λ _. true) (is_at n) (λ t. eq_same n) (λ v e. eq_flip n v.number e)
    es h

pub due-absent : (n : ℤ) (es : Entries) → IsStrictlySortedBy int_cmp (keys_of es)
    → lookup (int_eq n) es ≡ None → false ≡ list_any (is_at n) (versions_in es)
due-absent n es h at = sym (due_found n es h
    ∙ ap (found n (λ _. true) (is_at n) (λ t. eq_same n) (λ v e. eq_flip n v.number e)) at)

-- ---- what is reached
all_pass : (p : Version → Bool) (k : ℤ) (ts : List Text) → ((t : Text) → p (versioned k t) ≡ true)
    → filter p (map (versioned k) ts) ≡ map (versioned k) ts
all_pass p k [] h = refl
all_pass p k (t ∷ ts) h = rw (h t) (ap (λ l. versioned k t ∷ l) (all_pass p k ts h))

none_pass : (p : Version → Bool) (k : ℤ) (ts : List Text) → ((t : Text) → p (versioned k t) ≡ false)
    → filter p (map (versioned k) ts) ≡ []
none_pass p k [] h = refl
none_pass p k (t ∷ ts) h = rw (h t) (none_pass p k ts h)

quiet : (p : Version → Bool) (vs : List Version) → list_any p vs ≡ false → filter p vs ≡ []
quiet p [] h = refl
quiet p (v ∷ vs) h =
    elim (cases_Bool (p v)) [
      | inl k ↦ absurd (true≢false (rw k at h))
      | inr k ↦ rw k
          (quiet p vs (rw k at h))
    ]

-- ---- the texts of a version

texts-append : (n : ℤ) (vs ws : List Version)
    → texts_at n (vs ++ ws) ≡ texts_at n vs ++ texts_at n ws
texts-append n vs ws = ap (map (λ (v : Version). v.text)) (filter-append (is_at n) vs ws)
    ∙ map-append (λ (v : Version). v.text) (filter (is_at n) vs) (filter (is_at n) ws)

none-at : (n : ℤ) (vs : List Version) → list_any (is_at n) vs ≡ false → texts_at n vs ≡ []
none-at n vs h = ap (map (λ (v : Version). v.text)) (quiet (is_at n) vs h)

texts_again : (n : ℤ) (ts : List Text) → map (λ (v : Version). v.text) (map (versioned n) ts) ≡ ts
texts_again n [] = refl
texts_again n (t ∷ ts) = ap (λ l. t ∷ l) (texts_again n ts)

texts-own : (n : ℤ) (ts : List Text) → texts_at n (map (versioned n) ts) ≡ ts
texts-own n ts = ap (map (λ (v : Version). v.text)) (all_pass (is_at n) n ts (λ t. eq_same n))
    ∙ texts_again n ts

-- those of a version among all snapshots are what is held of it
pub texts-there : (n : ℤ) (es : Entries) (ts : List Text) → IsStrictlySortedBy int_cmp (keys_of es)
    → lookup (int_eq n) es ≡ Some ts → texts_at n (versions_in es) ≡ ts
texts-there n [] ts s h = absurd (none-some ts h)
texts-there n (y ∷ es) ts s h =
    texts-append n (map (versioned y.0) y.1) (versions_in es)
    ∙ elim (cases_Bool (int_eq n y.0)) [
      | inl k ↦
          let same : n ≡ y.0 = int_is n y.0 k in
          let above : Above n es = subst (λ i. Above i es) (sym same) (head_above y es s) in
          let own : texts_at n (map (versioned y.0) y.1) ≡ y.1 =
          ap (λ i. texts_at n (map (versioned i) y.1)) (sym same) ∙ texts-own n y.1 in
          let others = none-at n (versions_in es)
          (any_above n (λ _. true) (is_at n) (λ t. eq_same n) (λ v d. eq_flip n v.number d) es
          above) in
          ap (λ l. l ++ texts_at n (versions_in es)) own
          ∙ (ap (λ l. y.1 ++ l) others
          ∙ (append-nil y.1 ∙ head_is (int_eq n y.0) y.1 (lookup (int_eq n) es) ts h k))
      | inr k ↦
          let away = none-at n (map (versioned y.0) y.1)
          (any_away n (λ _. true) (is_at n) (λ t. eq_same n) (λ v d. eq_flip n v.number d) y.0
          y.1 k) in
          ap (λ l. l ++ texts_at n (versions_in es)) away
          ∙ texts-there n es ts (tail_sorted y es s)
          (rest_of_entry (int_eq n y.0) y.1 (lookup (int_eq n) es) (Some ts) h k)
    ]

pub texts-absent : (n : ℤ) (es : Entries) → IsStrictlySortedBy int_cmp (keys_of es)
    → lookup (int_eq n) es ≡ None → texts_at n (versions_in es) ≡ []
texts-absent n es s h = none-at n (versions_in es) (sym (due-absent n es s h))

-- what is found of its number, or nothing
pub texts-found : (n : ℤ) (es : Entries) (o : Option (List Text))
    → IsStrictlySortedBy int_cmp (keys_of es) → lookup (int_eq n) es ≡ o
    → unwrap_or o [] ≡ texts_at n (versions_in es)
texts-found n es None sorted at = sym (texts-absent n es sorted at)
texts-found n es (Some ts) sorted at = sym (texts-there n es ts sorted at)

-- ---- what goes

module _ (n : ℤ) where
  -- the first version is reached
  pub after_step : (es : Entries) → is_first_within n es ≡ true
      → filter (is_after n) (versions_in (rest_of es)) ≡ filter (is_after n) (versions_in es)
  after_step [] h = refl
  after_step (e ∷ es) h =
      sym (filter-append (is_after n) (map (versioned e.0) e.1) (versions_in es)
      ∙ ap (λ l. l ++ filter (is_after n) (versions_in es))
      (none_pass (is_after n) e.0 e.1 (λ t. not-true (int_lt n e.0) h)))

  pub before_step : (es : Entries)
      → first_before n es + length (filter (is_before n) (versions_in (rest_of es)))
      ≡ length (filter (is_before n) (versions_in es))
  before_step [] = refl
  before_step (e ∷ es) =
      let split = count-append (is_before n) (map (versioned e.0) e.1) (versions_in es) in
      elim (cases_Bool (int_lt e.0 n)) [
        | inl p ↦ rw p (ap (λ k. k + length (filter (is_before n) (versions_in es)))
            (sym (ap length (all_pass (is_before n) e.0 e.1 (λ t. p))
            ∙ length-map e.1 (versioned e.0))) ∙ sym split)
        | inr p ↦ rw p (ap (λ k. k + length (filter (is_before n) (versions_in es)))
            (sym (ap length (none_pass (is_before n) e.0 e.1 (λ t. p)))) ∙ sym split)
      ]

  pub rest_sorted : (es : Entries) → IsStrictlySortedBy int_cmp (keys_of es)
      → IsStrictlySortedBy int_cmp (keys_of (rest_of es))
  rest_sorted [] h = h
  rest_sorted (e ∷ es) h = tail_sorted e es h

  -- no version is reached
  after_above : (k : ℤ) (es : Entries) → int_lt n k ≡ true → Above k es
      → filter (is_after n) (versions_in es) ≡ versions_in es
  after_above k [] less h = refl
  after_above k (e ∷ es) less h =
      filter-append (is_after n) (map (versioned e.0) e.1) (versions_in es)
      ∙ (ap (λ l. l ++ filter (is_after n) (versions_in es))
      (all_pass (is_after n) e.0 e.1 (λ t. lt_trans n k e.0 less (lt_of k e.0 h.0)))
      ∙ ap (λ l. map (versioned e.0) e.1 ++ l) (after_above k es less h.1))

  before_above : (k : ℤ) (es : Entries) → int_lt n k ≡ true → Above k es
      → filter (is_before n) (versions_in es) ≡ []
  before_above k [] less h = refl
  before_above k (e ∷ es) less h =
      filter-append (is_before n) (map (versioned e.0) e.1) (versions_in es)
      ∙ (ap (λ l. l ++ filter (is_before n) (versions_in es))
      (none_pass (is_before n) e.0 e.1 (λ t. past n k e.0 less (lt_of k e.0 h.0)))
      ∙ before_above k es less h.1)

  pub after_end : (es : Entries) → IsStrictlySortedBy int_cmp (keys_of es)
      → is_first_within n es ≡ false → filter (is_after n) (versions_in es) ≡ versions_in es
  after_end [] h e = refl
  after_end (x ∷ es) h e =
      let less = not-false (int_lt n x.0) e in
      filter-append (is_after n) (map (versioned x.0) x.1) (versions_in es)
      ∙ (ap (λ l. l ++ filter (is_after n) (versions_in es))
      (all_pass (is_after n) x.0 x.1 (λ t. less))
      ∙ ap (λ l. map (versioned x.0) x.1 ++ l) (after_above x.0 es less (head_above x es h)))

  pub before_end : (es : Entries) → IsStrictlySortedBy int_cmp (keys_of es)
      → is_first_within n es ≡ false → filter (is_before n) (versions_in es) ≡ []
  before_end [] h e = refl
  before_end (x ∷ es) h e =
      let less = not-false (int_lt n x.0) e in
      filter-append (is_before n) (map (versioned x.0) x.1) (versions_in es)
      ∙ (ap (λ l. l ++ filter (is_before n) (versions_in es))
      (none_pass (is_before n) x.0 x.1 (λ t. less_behind x.0 n less))
      ∙ before_above x.0 es less (head_above x es h))

-- what a loop over the first versions keeps
pub record IsDropped (n : ℤ) (first now : Entries) (missed : ℕ) : Type 0 where
  pub left : filter (is_after n) (versions_in now) ≡ filter (is_after n) (versions_in first)
  pub count : capped (missed + length (filter (is_before n) (versions_in now)))
      ≡ capped (length (filter (is_before n) (versions_in first)))
  pub small : capped missed ≡ missed
  pub sorted : IsStrictlySortedBy int_cmp (keys_of now)

-- ---- one more

map-behind : (k : ℤ) (ts : List Text) (x : Text)
    → map (versioned k) (ts ++ x ∷ []) ≡ map (versioned k) ts ++ versioned k x ∷ []
map-behind k ts x = map-append (versioned k) ts (x ∷ [])

swapped : (a b : List Version) → (a ≡ []) ⊎ (b ≡ []) → a ++ b ≡ b ++ a
swapped a b (inl e) = ap (λ l. l ++ b) e ∙ (sym (append-nil b) ∙ sym (ap (λ l. b ++ l) e))
swapped a b (inr e) = ap (λ l. a ++ l) e ∙ (append-nil a ∙ sym (ap (λ l. l ++ a) e))

module _ (n : ℤ) (x : Text) (m : ℤ) where
  abbrev new : List Version
  new = versioned n x ∷ []

  -- the new one may as well stand before what has none of its number
  passes_by : (vs : List Version) → list_any (is_at n) vs ≡ false
      → filter (is_at m) (vs ++ new) ≡ filter (is_at m) (new ++ vs)
  passes_by vs none =
      filter-append (is_at m) vs new
      ∙ (swapped (filter (is_at m) vs) (filter (is_at m) new) (elim (cases_Bool (int_eq n m)) [
        | inl h ↦ inl (quiet (is_at m) vs (ap (λ k. list_any (is_at k) vs) (sym (int_is n m h))
            ∙ none))
        | inr h ↦ inr (rw h refl)
      ])
      ∙ sym (filter-append (is_at m) new vs))

  behind : (a b c : List Version) → filter (is_at m) b ≡ filter (is_at m) c
      → filter (is_at m) (a ++ b) ≡ filter (is_at m) (a ++ c)
  behind a b c h = filter-append (is_at m) a b
      ∙ (ap (λ l. filter (is_at m) a ++ l) h ∙ sym (filter-append (is_at m) a c))

  order-there : (es : Entries) (ts w : List Text) → IsStrictlySortedBy int_cmp (keys_of es)
      → lookup (int_eq n) es ≡ Some ts → w ≡ ts ++ x ∷ []
      → filter (is_at m) (versions_in es ++ new)
      ≡ filter (is_at m) (versions_in (set_value (int_eq n) es w))
  order-there [] ts w s h e = absurd (none-some ts h)
  order-there (y ∷ es) ts w s h e =
      let a = map (versioned y.0) y.1 in
      elim (cases_Bool (int_eq n y.0)) [
        | inl k ↦
            let same : n ≡ y.0 = int_is n y.0 k in
            let own : y.1 ≡ ts = head_is (int_eq n y.0) y.1 (lookup (int_eq n) es) ts h k in
            let now : map (versioned y.0) w ≡ a ++ new =
            ap (map (versioned y.0)) (e ∙ ap (λ l. l ++ x ∷ []) (sym own))
            ∙ (map-behind y.0 y.1 x ∙ ap (λ z. a ++ versioned z x ∷ []) (sym same)) in
            let above : Above n es = subst (λ i. Above i es) (sym same) (head_above y es s) in
            let none = any_above n (λ _. true) (is_at n) (λ t. eq_same n)
            (λ v d. eq_flip n v.number d) es above in
            rw k (ap (filter (is_at m)) (append_assoc a (versions_in es) new)
            ∙ (behind a (versions_in es ++ new) (new ++ versions_in es)
            (passes_by (versions_in es) none)
            ∙ (ap (filter (is_at m)) (sym (append_assoc a new (versions_in es)))
            ∙ ap (λ l. filter (is_at m) (l ++ versions_in es)) (sym now))))
        | inr k ↦
            let rest = order-there es ts w (tail_sorted y es s)
            (rest_of_entry (int_eq n y.0) y.1 (lookup (int_eq n) es) (Some ts) h k) e in
            rw k (ap (filter (is_at m)) (append_assoc a (versions_in es) new)
            ∙ behind a (versions_in es ++ new) (versions_in (set_value (int_eq n) es w)) rest)
      ]

  order_at : (y : ℤ × List Text) (es rest : Entries) (o : Ordering) → int_cmp n y.0 ≡ o
      → int_eq n y.0 ≡ false → list_any (is_at n) (versions_in (y ∷ es)) ≡ false
      → filter (is_at m) (versions_in es ++ new) ≡ filter (is_at m) (versions_in rest)
      → filter (is_at m) (versions_in (y ∷ es) ++ new)
      ≡ filter (is_at m) (versions_in (match_ordering o ((n, x ∷ []) ∷ y ∷ es) ((y.0, x ∷ []) ∷ es)
      (y ∷ rest)))
  order_at y es rest Less e other none h = passes_by (versions_in (y ∷ es)) none
  order_at y es rest Equal e other none h = absurd (true≢false (sym (ap is_eq e) ∙ other))
  order_at y es rest Greater e other none h =
      let a = map (versioned y.0) y.1 in
      ap (filter (is_at m)) (append_assoc a (versions_in es) new)
      ∙ behind a (versions_in es ++ new) (versions_in rest) h

  order-new : (es : Entries) → IsStrictlySortedBy int_cmp (keys_of es) → lookup (int_eq n) es ≡ None
      → filter (is_at m) (versions_in es ++ new)
      ≡ filter (is_at m) (versions_in (insert_entry int_cmp es n (x ∷ [])))
  order-new [] s h = refl
  order-new (y ∷ es) s h =
      let other = not_head (int_eq n y.0) y.1 (lookup (int_eq n) es) h in
      order_at y es (insert_entry int_cmp es n (x ∷ [])) (int_cmp n y.0) refl other
      (sym (due-absent n (y ∷ es) s h))
      (order-new es (tail_sorted y es s)
      (rest_of_entry (int_eq n y.0) y.1 (lookup (int_eq n) es) None h other))

pub ordered-there : (n : ℤ) (x : Text) (es : Entries) (ts w : List Text)
    → IsStrictlySortedBy int_cmp (keys_of es) → lookup (int_eq n) es ≡ Some ts → w ≡ ts ++ x ∷ []
    → SameOrder (versions_in es ++ versioned n x ∷ []) (versions_in (set_value (int_eq n) es w))
ordered-there n x es ts w s h e = λ m. order-there n x m es ts w s h e

pub ordered-new : (n : ℤ) (x : Text) (es : Entries) (w : List Text)
    → IsStrictlySortedBy int_cmp (keys_of es) → lookup (int_eq n) es ≡ None → w ≡ x ∷ []
    → SameOrder (versions_in es ++ versioned n x ∷ []) (versions_in (insert_entry int_cmp es n w))
ordered-new n x es w s h e =
    λ m. order-new n x m es s h
    ∙ ap (λ v. filter (is_at m) (versions_in (insert_entry int_cmp es n v))) (sym e)

pub same-written : (n : ℤ) (es : Entries) (ts w : List Text) → lookup (int_eq n) es ≡ Some ts
    → w ≡ ts → versions_in (set_value (int_eq n) es w) ≡ versions_in es
same-written n [] ts w h e = refl
same-written n (y ∷ es) ts w h e =
    elim (cases_Bool (int_eq n y.0)) [
      | inl k ↦ rw k (ap (λ l. map (versioned y.0) l ++ versions_in es)
          (e ∙ sym (head_is (int_eq n y.0) y.1 (lookup (int_eq n) es) ts h k)))
      | inr k ↦ rw k (ap (λ l. map (versioned y.0) y.1 ++ l)
          (same-written n es ts w (rest_of_entry (int_eq n y.0) y.1 (lookup (int_eq n) es) (Some ts)
          h k) e))
    ]

abbrev pub sizes : List (List Text) → ℕ
sizes [] = 0
sizes (ts ∷ tss) = length ts + sizes tss

pub sizes-all : (es : Entries) → sizes (map (λ e. e.1) es) ≡ length (versions_in es)
sizes-all [] = refl
sizes-all (e ∷ es) = let rest = sizes-all es in let own =
    length-map e.1 (versioned e.0) in let all =
    length-append (map (versioned e.0) e.1) (versions_in es) in omega (arith, rest, own, all)

-- ---- the loop that drops what is reached

small_min : (top k : ℕ) → min (min k top) top ≡ min k top
small_min top k = omega arith

added_min : (top m f r k : ℕ) → m ≡ min (k + f) top → min (m + r) top ≡ min (k + (f + r)) top
added_min top m f r k e = omega (arith, e)

pub dropped_next : (n : ℤ) (first now after : Entries) (missed f more : ℕ)
    → IsDropped n first now missed → is_first_within n now ≡ true → after ≡ rest_of now
    → f ≡ first_before n now
    → more ≡ capped (missed + f) → IsDropped n first after more
dropped_next n first now after missed f more h reached is own e = record {
  left = ap (λ l. filter (is_after n) (versions_in l)) is ∙ (after_step n now reached ∙ h.left);
  count = let r = length (filter (is_before n) (versions_in after)) in
      let split : f + r ≡ length (filter (is_before n) (versions_in now)) =
      ap (λ k. k + r) own ∙ (ap (λ l. first_before n now + length
      (filter (is_before n) (versions_in l))) is ∙ before_step n now) in
      added_min (2 ^ 64 - 1) more f r missed e ∙ (ap (λ k. capped (missed + k)) split ∙ h.count);
  small = ap capped e ∙ (small_min (2 ^ 64 - 1) (missed + f) ∙ sym e);
  sorted = subst (λ l. IsStrictlySortedBy int_cmp (keys_of l)) (sym is)
      (rest_sorted n now h.sorted);
}

pub dropped_left : (n : ℤ) (first now : Entries) (missed : ℕ) → IsDropped n first now missed
    → is_first_within n now ≡ false → versions_in now ≡ filter (is_after n) (versions_in first)
dropped_left n first now missed h done = sym (after_end n now h.sorted done) ∙ h.left

pub dropped_count : (n : ℤ) (first now : Entries) (missed : ℕ) → IsDropped n first now missed
    → is_first_within n now ≡ false
    → missed ≡ capped (length (filter (is_before n) (versions_in first)))
dropped_count n first now missed h done =
    let none : missed + length (filter (is_before n) (versions_in now)) ≡ missed =
    ap (λ l. missed + length l) (before_end n now h.sorted done) ∙ plus_none missed in
    sym h.small ∙ (sym (ap capped none) ∙ h.count)
  where
    plus_none : (k : ℕ) → k + 0 ≡ k
    plus_none k = omega arith
