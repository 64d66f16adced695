-- What is found in lists, and lists that are empty or gone through by index.
use Rattle.std.proofs.Common.{◌≡◌, List, [], ◌∷◌, ◌++◌, refl, sym, ◌∙◌, ◌+◌, ℕ, zero, suc, take}
use Rattle.std.proofs.Common.{Some, None, ap, arith, ◌⊎◌, length, Option, inl, inr, append_assoc}
use Rattle.std.proofs.lemmas.List.{append-nil, append_cancel_left, map-append}
use Rattle.std.specs.Prelude.{map, slice_get, option_map}
use Rattle.std.proofs.lemmas.Option.{same_Some}
use Rattle.std.specs.Option.{option_or}
use Rattle.lsp_verdict.specs.LookBack.{first_from, first_of}
use Rattle.lsp_verdict.proofs.LookBackLemmas.{first_of-none}

-- ---- lists that are empty, and those that are not

pub cancel_all : {A : Type 0} (xs ys : List A) → xs ++ ys ≡ xs → ys ≡ []
cancel_all xs ys e = append_cancel_left xs ys [] (e ∙ sym (append-nil xs))

pub first_nil : {A : Type 0} (xs ys : List A) → xs ++ ys ≡ [] → xs ≡ []
first_nil [] ys e = refl
first_nil (x ∷ xs) ys e = absurd cc

pub rest_nil : {A : Type 0} (xs ys : List A) → xs ++ ys ≡ [] → ys ≡ []
rest_nil [] ys e = e
rest_nil (x ∷ xs) ys e = absurd cc

pub not_nil : {A : Type 0} (xs : List A) (x : A) → xs ++ x ∷ [] ≡ [] → ⊥
not_nil [] x e = absurd cc
not_nil (y ∷ xs) x e = absurd cc

pub not_empty : {A X : Type 0} (front : List A) (x : A) (back : List A) → [] ≡ front ++ x ∷ back → X
not_empty [] x back e = cc
not_empty (f ∷ front) x back e = cc

-- ---- lists that are gone through by index

-- one item more
take_one : {A : Type 0} (xs : List A) (i : ℕ) (x : A) → slice_get xs i ≡ Some x
    → take (i + 1) xs ≡ take i xs ++ x ∷ []
take_one [] i x e = let same : None ≡ Some x = e in absurd cc
take_one (y ∷ xs) zero x e = ap (λ w. w ∷ []) (same_Some _ _ e)
take_one {A} (y ∷ xs) (suc i) x e =
    let n : suc i + 1 ≡ suc (i + 1) = omega arith in
    ap (λ k. take {A = A} k (y ∷ xs)) n ∙ ap (λ w. y ∷ w) (take_one xs i x e)

pub map_one : {A B : Type 0} (f : A → B) (xs : List A) (i : ℕ) (x : A) → slice_get xs i ≡ Some x
    → map f (take (i + 1) xs) ≡ map f (take i xs) ++ f x ∷ []
map_one f xs i x e = ap (map f) (take_one xs i x e) ∙ map-append f (take i xs) (x ∷ [])

-- one item more was pushed
pub pushed_one : {A B C : Type 0} (view : A → B) (f : C → B) (items new : List A) (xs : List C)
    (i : ℕ) (a : A) (x : C) → new ≡ items ++ a ∷ [] → map view items ≡ map f (take i xs)
    → slice_get xs i ≡ Some x → view a ≡ f x → map view new ≡ map f (take (i + 1) xs)
pushed_one view f items new xs i a x pushed so_far there same =
    ap (map view) pushed ∙ map-append view items (a ∷ [])
    ∙ ap (λ w. w ++ view a ∷ []) so_far
    ∙ ap (λ b. map f (take i xs) ++ b ∷ []) same
    ∙ sym (map_one f xs i x there)

-- ---- what is found in a list, and where nothing is

-- the element where something is found, with nothing before it
pub record Found {A X : Type 0} (f : List A → A → Option X) (before xs : List A) (v : X) : Type 0 where
  pub front : List A
  pub here : A
  pub after : List A
  pub whole : xs ≡ front ++ here ∷ after
  pub at : f (before ++ front) here ≡ Some v
  pub none : first_from f before front ≡ None

none_some : {X Y : Type 0} (v : X) → None ≡ Some v → Y
none_some v e = absurd cc

pub found : {A X : Type 0} (f : List A → A → Option X) (before xs : List A) (v : X) → first_from f before xs ≡ Some v → Found f before xs v
found f before [] v e = none_some v e
found {A} {X} f before (x ∷ xs) v e =
    by_first (λ h. found f (before ++ x ∷ []) xs v h) (f before x) refl e
  where
    by_first : (first_from f (before ++ x ∷ []) xs ≡ Some v → Found f (before ++ x ∷ []) xs v) → (o : Option X) → f before x ≡ o → option_or o (first_from f (before ++ x ∷ []) xs) ≡ Some v → Found f before (x ∷ xs) v
    by_first next None is e =
        let rest = next e in
        record {
          front = x ∷ rest.front;
          here = rest.here;
          after = rest.after;
          whole = ap (λ w. x ∷ w) rest.whole;
          at = ap (λ w. f w rest.here) (sym (append_assoc before (x ∷ []) rest.front)) ∙ rest.at;
          none = ap (λ o. option_or o (first_from f (before ++ x ∷ []) rest.front)) is ∙ rest.none;
        }
    by_first next (Some w) is e = record {
      front = [];
      here = x;
      after = xs;
      whole = refl;
      at = ap (λ l. f l x) (append-nil before) ∙ is ∙ e;
      none = refl;
    }

-- nothing is found where no element has anything
pub nothing_from : {A X : Type 0} (f : List A → A → Option X) (front xs : List A) → ((before after : List A) (x : A) → front ++ xs ≡ before ++ x ∷ after → f before x ≡ None) → first_from f front xs ≡ None
nothing_from f front [] each = refl
nothing_from f front (x ∷ xs) each =
    ap (λ o. option_or o (first_from f (front ++ x ∷ []) xs)) (each front xs x refl)
    ∙ nothing_from f (front ++ x ∷ []) xs (λ before after y cut. each before after y (sym (append_assoc front (x ∷ []) xs) ∙ cut))

-- and then no element has anything
pub nothing_at : {A X : Type 0} (f : List A → A → Option X) (xs before after : List A) (x : A) → first_of f xs ≡ None → xs ≡ before ++ x ∷ after → f before x ≡ None
nothing_at f xs before after x none cut = first_of-none f before after x (ap (first_of f) (sym cut) ∙ none)

-- ---- options

pub or_cases : {X : Type 0} (a b : Option X) (v : X) → option_or a b ≡ Some v → (a ≡ Some v) ⊎ ((a ≡ None) × (b ≡ Some v))
or_cases None b v e = inr (refl, e)
or_cases (Some w) b v e = inl e

pub map_none : {X Y : Type 0} (f : X → Y) (o : Option X) → option_map f o ≡ None → o ≡ None
map_none f None e = refl
map_none f (Some x) e = none_some (f x) (sym e)

pub map_some : {X Y : Type 0} (f : X → Y) (o : Option X) (y : Y) → option_map f o ≡ Some y → (x : X) × (o ≡ Some x) × (f x ≡ y)
map_some f None y e = none_some y e
map_some f (Some x) y e = (x, refl, cc e)

-- ---- two places in a list

-- two splits of a list: at one place, or one before the other
pub data Splits {A : Type 0} (xs : List A) (a : A) (ys us : List A) (b : A) (bs : List A) : Type 0 where
  one : xs ≡ us → a ≡ b → ys ≡ bs → Splits xs a ys us b bs
  earlier : (mid : List A) → us ≡ xs ++ a ∷ mid → ys ≡ mid ++ b ∷ bs → Splits xs a ys us b bs
  later : (mid : List A) → xs ≡ us ++ b ∷ mid → bs ≡ mid ++ a ∷ ys → Splits xs a ys us b bs

pub splits : {A : Type 0} (xs : List A) (a : A) (ys us : List A) (b : A) (bs : List A) → xs ++ a ∷ ys ≡ us ++ b ∷ bs → Splits xs a ys us b bs
splits [] a ys [] b bs e = one refl (cc e) (cc e)
splits [] a ys (u ∷ us) b bs e =
    let first : a ≡ u = cc e in
    let rest : ys ≡ us ++ b ∷ bs = cc e in
    earlier us (ap (λ w. w ∷ us) (sym first)) rest
splits (x ∷ xs) a ys [] b bs e =
    let first : x ≡ b = cc e in
    let rest : xs ++ a ∷ ys ≡ bs = cc e in
    later xs (ap (λ w. w ∷ xs) first) (sym rest)
splits (x ∷ xs) a ys (u ∷ us) b bs e =
    let first : x ≡ u = cc e in
    let rest : xs ++ a ∷ ys ≡ us ++ b ∷ bs = cc e in
    elim (splits xs a ys us b bs rest) [
      | one p q r ↦ one (ap (λ w. w ∷ xs) first ∙ ap (λ w. u ∷ w) p) q r
      | earlier mid p q ↦ earlier mid (ap (λ w. u ∷ w) p ∙ ap (λ w. w ∷ (xs ++ a ∷ mid)) (sym first)) q
      | later mid p q ↦ later mid (ap (λ w. x ∷ w) p ∙ ap (λ w. w ∷ (us ++ b ∷ mid)) first) q
    ]

-- splits after as many elements are one
pub same_split : {A : Type 0} (xs us ys bs : List A) → length xs ≡ length us → xs ++ ys ≡ us ++ bs → (xs ≡ us) × (ys ≡ bs)
same_split [] [] ys bs len e = (refl, e)
same_split (x ∷ xs) (u ∷ us) ys bs len e =
    let first : x ≡ u = cc e in
    let tail : xs ++ ys ≡ us ++ bs = cc e in
    let rest = same_split xs us ys bs (omega arith) tail in
    (ap (λ w. w ∷ xs) first ∙ ap (λ w. u ∷ w) rest.0, rest.1)
same_split _ _ ys bs len e = absurd (omega arith)
