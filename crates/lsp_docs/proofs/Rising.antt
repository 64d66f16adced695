-- Lists of versions: those that rise, the last so many of them, and what stands among them.
use Rattle.std.proofs.Common.{◌≡◌, ℕ, ◌+◌, ◌≤◌, ◌⊎◌, zero, suc, Bool, true, false, ◌||◌, List, []}
use Rattle.std.proofs.Common.{◌∷◌, ◌++◌, length, length-append, length-drop, take, drop, refl, sym}
use Rattle.std.proofs.Common.{ap, ◌∙◌, inl, inr, append_assoc, true≢false, arith}
use Rattle.std.specs.Prelude.{◌-◌, int_lt}
use Rattle.std.specs.List.{list_all, list_any}
use Rattle.std.proofs.Math.Seq.{drop-append-add}
use Rattle.std.proofs.lemmas.Bool.{or_parts, cases_Bool, and_parts}
use Rattle.std.proofs.lemmas.List.{drop-append-le, drop_all, length-take-le, take-append-drop}
use Rattle.std.proofs.lemmas.List.Folds.{list_all-append}
use Rattle.std.proofs.Math.Bool.{or-true}
use Rattle.lsp_docs.specs.Documents.{Version, is_after}
use Rattle.lsp_docs.specs.Snapshots.{last_of}
use Rattle.lsp_docs.specs.Laws.{rises}
use Rattle.lsp_docs.proofs.Words.{lt_trans}

-- ---- the last so many

pub last-few : (n : ℕ) (vs : List Version) → length (last_of n vs) ≤ n
last-few n vs = few (length vs) n (length (last_of n vs)) (length-drop (length vs - n) vs)
  where
    few : (long most left : ℕ) → left ≡ long - (long - most) → left ≤ most
    few long most left e = omega (arith, e)

pub last-none : (vs : List Version) → last_of 0 vs ≡ []
last-none vs = drop_all (length vs - 0) vs (whole (length vs))
  where
    whole : (n : ℕ) → n ≤ n - 0
    whole n = omega arith

pub last-empty : (n : ℕ) → last_of n [] ≡ []
last-empty n = drop_all (0 - n) [] (least (0 - n))
  where
    least : (m : ℕ) → 0 ≤ m
    least m = omega arith

cut_count : (long most front back : ℕ) → front ≡ long - most → back ≡ long - (long - most)
    → (long + 1) - most ≡ front + ((back + 1) - most)
cut_count long most front back e f = omega (arith, e, f)

not_more : (long most : ℕ) → long - most ≤ long
not_more long most = omega arith

-- with one more version behind them, the last so many of the last ones are the last so many of all
pub last-snoc : (n : ℕ) (vs : List Version) (v : Version)
    → last_of n (last_of n vs ++ v ∷ []) ≡ last_of n (vs ++ v ∷ [])
last-snoc n vs v = sym (ap (λ m. drop m (vs ++ v ∷ [])) count
    ∙ (ap (λ l. drop (length xs + more) l) whole ∙ drop-append-add xs (ys ++ v ∷ []) more))
  where
    xs : List Version
    xs = take (length vs - n) vs

    ys : List Version
    ys = last_of n vs

    more : ℕ
    more = length (ys ++ v ∷ []) - n

    whole : vs ++ v ∷ [] ≡ xs ++ (ys ++ v ∷ [])
    whole = ap (λ l. l ++ v ∷ []) (sym (take-append-drop (length vs - n) vs))
        ∙ append_assoc xs ys (v ∷ [])

    count : length (vs ++ v ∷ []) - n ≡ length xs + more
    count =
        ap (λ m. m - n) (length-append vs (v ∷ []))
        ∙ (cut_count (length vs) n (length xs) (length ys)
        (length-take-le (length vs - n) vs (not_more (length vs) n))
        (length-drop (length vs - n) vs)
        ∙ ap (λ m. length xs + (m - n)) (sym (length-append ys (v ∷ []))))

-- ---- what stands among them

abbrev pub Among : Version → List Version → Type 0
Among v [] = ⊥
Among v (w ∷ ws) = (v ≡ w) ⊎ Among v ws

pub among-front : (v : Version) (xs ys : List Version) → Among v xs → Among v (xs ++ ys)
among-front v [] ys m = absurd m
among-front v (x ∷ xs) ys (inl e) = inl e
among-front v (x ∷ xs) ys (inr m) = inr (among-front v xs ys m)

pub among-back : (v : Version) (xs ys : List Version) → Among v ys → Among v (xs ++ ys)
among-back v [] ys m = m
among-back v (x ∷ xs) ys m = inr (among-back v xs ys m)

pub among-split : (v : Version) (xs ys : List Version) → Among v (xs ++ ys)
    → Among v xs ⊎ Among v ys
among-split v [] ys m = inr m
among-split v (x ∷ xs) ys (inl e) = inl (inl e)
among-split v (x ∷ xs) ys (inr m) =
    elim (among-split v xs ys m) [ inl k ↦ inl (inr k) | inr k ↦ inr k ]

pub among-drop : (v : Version) (k : ℕ) (xs : List Version) → Among v (drop k xs) → Among v xs
among-drop v zero xs m = m
among-drop v (suc k) [] m = absurd m
among-drop v (suc k) (x ∷ xs) m = inr (among-drop v k xs m)

pub among-any : (p : Version → Bool) (v : Version) (xs : List Version) → Among v xs → p v ≡ true
    → list_any p xs ≡ true
among-any p v [] m h = absurd m
among-any p v (x ∷ xs) (inl e) h = rw (ap p (sym e) ∙ h) refl
among-any p v (x ∷ xs) (inr m) h = rw (among-any p v xs m h) (or-true (p x))

pub among-none : (p : Version → Bool) (v : Version) (xs : List Version) → list_any p xs ≡ false
    → Among v xs → p v ≡ false
among-none p v [] h m = absurd m
among-none p v (x ∷ xs) h (inl e) = ap p e ∙ (or_parts (p x) (list_any p xs) h).0
among-none p v (x ∷ xs) h (inr m) = among-none p v xs (or_parts (p x) (list_any p xs) h).1 m

-- one that passes the test
pub record Passes (p : Version → Bool) (xs : List Version) : Type 0 where
  pub version : Version
  pub among : Among version xs
  pub passes : p version ≡ true

pub any-among : (p : Version → Bool) (xs : List Version) → list_any p xs ≡ true → Passes p xs
any-among p [] h = absurd (true≢false (sym h))
any-among p (x ∷ xs) h =
    elim (cases_Bool (p x)) [
      | inl e ↦ record { version = x; among = inl refl; passes = e }
      | inr e ↦
          let rest = any-among p xs (sym (ap (λ b. b || list_any p xs) e) ∙ h) in
          record { version = rest.version; among = inr rest.among; passes = rest.passes }
    ]

-- ---- versions that rise

all-drop : (p : Version → Bool) (k : ℕ) (xs : List Version) → list_all p xs ≡ true
    → list_all p (drop k xs) ≡ true
all-drop p zero xs h = h
all-drop p (suc k) [] h = refl
all-drop p (suc k) (x ∷ xs) h = all-drop p k xs (and_parts (p x) (list_all p xs) h).1

module _ (v : Version) where
  abbrev above : List Version → Bool
  above ws = list_all (is_after v.number) ws

  above-parts : (xs ys : List Version) → above (xs ++ ys) ≡ true
      → (above xs ≡ true) × (above ys ≡ true)
  above-parts xs ys h = and_parts (above xs) (above ys)
      (sym (list_all-append (is_after v.number) xs ys) ∙ h)

  above-last : (xs : List Version) (w : Version) → above (xs ++ w ∷ []) ≡ true
      → int_lt v.number w.number ≡ true
  above-last xs w h = (and_parts (int_lt v.number w.number) true (above-parts xs (w ∷ []) h).1).0

pub rises-snoc : (xs : List Version) (a b : Version) → rises (xs ++ a ∷ []) ≡ true
    → int_lt a.number b.number ≡ true → rises ((xs ++ a ∷ []) ++ b ∷ []) ≡ true
rises-snoc [] a b h less = rw less refl
rises-snoc (x ∷ xs) a b h less =
    let parts = and_parts (above x (xs ++ a ∷ [])) (rises (xs ++ a ∷ [])) h in
    let next = lt_trans x.number a.number b.number (above-last x xs a parts.0) less in
    let all : above x ((xs ++ a ∷ []) ++ b ∷ []) ≡ true =
    list_all-append (is_after x.number) (xs ++ a ∷ []) (b ∷ []) ∙ rw (parts.0, next) refl in
    rw (all, rises-snoc xs a b parts.1 less) refl

rises-drop : (k : ℕ) (xs : List Version) → rises xs ≡ true → rises (drop k xs) ≡ true
rises-drop zero xs h = h
rises-drop (suc k) [] h = refl
rises-drop (suc k) (x ∷ xs) h = rises-drop k xs (and_parts (above x xs) (rises xs) h).1

rises-front : (xs ys : List Version) → rises (xs ++ ys) ≡ true → rises xs ≡ true
rises-front [] ys h = refl
rises-front (x ∷ xs) ys h =
    let parts = and_parts (above x (xs ++ ys)) (rises (xs ++ ys)) h in
    rw ((above-parts x xs ys parts.0).0, rises-front xs ys parts.1) refl

-- the last so many rise too, with what stands behind them
pub last-rises : (n : ℕ) (xs ys : List Version) → rises (xs ++ ys) ≡ true
    → rises (last_of n xs ++ ys) ≡ true
last-rises n xs ys h =
    let k = length xs - n in
    ap rises (sym (drop-append-le k xs ys (not_more (length xs) n))) ∙ rises-drop k (xs ++ ys) h

-- a version among those that rise is below the last one
pub among-below : (xs : List Version) (v w : Version) → rises (xs ++ w ∷ []) ≡ true → Among v xs
    → int_lt v.number w.number ≡ true
among-below [] v w h m = absurd m
among-below (x ∷ xs) v w h (inl e) =
    ap (λ (u : Version). int_lt u.number w.number) e
    ∙ above-last x xs w (and_parts (above x (xs ++ w ∷ [])) (rises (xs ++ w ∷ [])) h).0
among-below (x ∷ xs) v w h (inr m) =
    among-below xs v w (and_parts (above x (xs ++ w ∷ [])) (rises (xs ++ w ∷ [])) h).1 m

among-rest : (k : ℕ) (xs : List Version) (v : Version) → rises xs ≡ true → Among v xs
    → Among v (drop k xs) ⊎ (list_all (is_after v.number) (drop k xs) ≡ true)
among-rest zero xs v h m = inl m
among-rest (suc k) [] v h m = absurd m
among-rest (suc k) (x ∷ xs) v h (inl e) =
    inr (all-drop (is_after v.number) k xs
    (ap (λ (u : Version). list_all (is_after u.number) xs) e
    ∙ (and_parts (above x xs) (rises xs) h).0))
among-rest (suc k) (x ∷ xs) v h (inr m) =
    among-rest k xs v (and_parts (above x xs) (rises xs) h).1 m

-- **A version among those that rise is one of the last so many, or below each of them.**
pub among-last : (n : ℕ) (xs ys : List Version) (v : Version) → rises (xs ++ ys) ≡ true → Among v xs
    → Among v (last_of n xs) ⊎ (list_all (is_after v.number) (last_of n xs) ≡ true)
among-last n xs ys v h m = among-rest (length xs - n) xs v (rises-front xs ys h) m
