-- Lists that have the same versions, those of each number in the same order.
use Rattle.std.proofs.Common.{◌≡◌, ℕ, zero, suc, ◌+◌, ◌≤◌, Bool, true, false, ◌&&◌, ◌||◌, List, [], ◌∷◌}
use Rattle.std.proofs.Common.{◌++◌, map, filter, length, length-append, refl, sym, ap, ◌∙◌, inl}
use Rattle.std.proofs.Common.{inr, true≢false, Option, Some, None, Result, Ok, Err, arith}
use Rattle.std.specs.Prelude.{ℤ, if◌then◌else◌, is_some, nat_lt, not, int_lt}
use Rattle.std.specs.List.{list_any}
use Rattle.std.specs.Ordering.{int_eq}
use Rattle.std.specs.Str.{bytes_eq}
use Rattle.std.proofs.lemmas.Bool.{cases_Bool}
use Rattle.std.proofs.lemmas.Bool.Decides.{Decides-int_eq}
use Rattle.std.proofs.lemmas.List.Elements.{filter-append}
use Rattle.lsp_types.specs.declared.position.Encoding.{Encoding}
use Rattle.lsp_types.specs.declared.change.SyncKind.{SyncKind}
use Rattle.lsp_text.specs.Edits.{Edit, applied}
use Rattle.lsp_docs.specs.Documents.{Terms, Version, versioned, is_at}
use Rattle.lsp_docs.specs.Calls.{Text, byte_len, Call, opens, changes, closes, saves, shows}
use Rattle.lsp_types.specs.declared.line_ends.LineEnds.{LineEnds}
use Rattle.lsp_text.specs.SameText.{same_text}
use Rattle.lsp_docs.specs.Rules.{differs, version_rule, text_rule, change_rule, rule_of, first_row}
use Rattle.lsp_docs.specs.Rules.{fits_kind}
use Rattle.lsp_docs.specs.Snapshots.{texts_at}
use Rattle.lsp_docs.specs.State.{SameOrder, due_rule, rule_with}

pub count-append : (p : Version → Bool) (vs ws : List Version)
    → length (filter p (vs ++ ws)) ≡ length (filter p vs) + length (filter p ws)
count-append p vs ws = ap length (filter-append p vs ws) ∙ length-append (filter p vs) (filter p ws)

pub order-of : (vs ws : List Version) → vs ≡ ws → SameOrder vs ws
order-of vs ws e = λ n. ap (filter (is_at n)) e

pub order-then : (vs ws us : List Version) → SameOrder vs ws → SameOrder ws us → SameOrder vs us
order-then vs ws us h k = λ n. h n ∙ k n

pub order-behind : (vs ws us : List Version) → SameOrder vs ws → SameOrder (vs ++ us) (ws ++ us)
order-behind vs ws us h =
    λ n. filter-append (is_at n) vs us
    ∙ (ap (λ l. l ++ filter (is_at n) us) (h n) ∙ sym (filter-append (is_at n) ws us))

filter-swap : (p q : Version → Bool) (vs : List Version)
    → filter p (filter q vs) ≡ filter q (filter p vs)
filter-swap p q [] = refl
filter-swap p q (v ∷ vs) =
    elim (cases_Bool (q v)) [
      | inl h ↦ elim (cases_Bool (p v)) [
        | inl k ↦ rw (h, k, h) (ap (λ l. v ∷ l) (filter-swap p q vs))
        | inr k ↦ rw (h, k) (filter-swap p q vs)
      ]
      | inr h ↦ elim (cases_Bool (p v)) [
        | inl k ↦ rw (h, k, h) (filter-swap p q vs)
        | inr k ↦ rw (h, k) (filter-swap p q vs)
      ]
    ]

pub order-filtered : (q : Version → Bool) (vs ws : List Version) → SameOrder vs ws
    → SameOrder (filter q vs) (filter q ws)
order-filtered q vs ws h =
    λ n. filter-swap (is_at n) q vs ∙ (ap (filter q) (h n) ∙ filter-swap q (is_at n) ws)

-- those that pass a test, and the others
length-parts : (p : Version → Bool) (vs : List Version)
    → length vs ≡ length (filter p vs) + length (filter (λ v. not (p v)) vs)
length-parts p [] = refl
length-parts p (v ∷ vs) =
    elim (cases_Bool (p v)) [
      | inl h ↦ rw h (omega (arith, length-parts p vs))
      | inr h ↦ rw h (omega (arith, length-parts p vs))
    ]

-- the first one is among those of its number
has-first : (v : Version) (vs : List Version)
    → filter (is_at v.number) (v ∷ vs) ≡ v ∷ filter (is_at v.number) vs
has-first v vs = rw ((Decides-int_eq v.number v.number).1 refl) refl

-- as many as without those of the first number, and with them
length-within : (most : ℕ) (vs ws : List Version) → length vs ≤ most → SameOrder vs ws
    → length vs ≡ length ws
length-within most [] [] le h = refl
length-within most [] (w ∷ ws) le h =
    let clash : [] ≡ w ∷ filter (is_at w.number) ws = h w.number ∙ has-first w ws in absurd (cc)
length-within zero (v ∷ vs) ws le h = absurd (omega (arith, le))
length-within (suc most) (v ∷ vs) ws le h =
    let own = is_at v.number in
    let other : Version → Bool = λ w. not (own w) in
    let first = ap length (has-first v vs) in
    let parts = length-parts own (v ∷ vs) in
    let rest = length-within most (filter other (v ∷ vs)) (filter other ws)
    (omega (arith, le, first, parts)) (order-filtered other (v ∷ vs) ws h) in
    omega (arith, parts, length-parts own ws, ap length (h v.number), rest)

pub order-length : (vs ws : List Version) → SameOrder vs ws → length vs ≡ length ws
order-length vs ws h = length-within (length vs) vs ws (omega arith) h

pub order-count : (p : Version → Bool) (vs ws : List Version) → SameOrder vs ws
    → length (filter p vs) ≡ length (filter p ws)
order-count p vs ws h = order-length (filter p vs) (filter p ws) (order-filtered p vs ws h)

-- the texts of a version are the same
pub order-texts : (n : ℤ) (vs ws : List Version) → SameOrder vs ws → texts_at n vs ≡ texts_at n ws
order-texts n vs ws h = ap (map (λ (v : Version). v.text)) (h n)

-- one of the version that has another text is one of its texts that is another
pub differs-texts : (ends : LineEnds) (v : Version) (vs : List Version)
    → list_any (differs ends v) vs
    ≡ list_any (λ t. not (same_text ends v.text t)) (texts_at v.number vs)
differs-texts ends v [] = refl
differs-texts ends v (s ∷ vs) =
    let other = not (same_text ends v.text s.text) in
    elim (cases_Bool (int_eq s.number v.number)) [
      | inl k ↦ rw k (ap (λ b. (b && other) || list_any (differs ends v) vs)
          (flipped v.number s.number true k)
          ∙ ap (λ b. other || b) (differs-texts ends v vs))
      | inr k ↦ rw k (ap (λ b. (b && other) || list_any (differs ends v) vs)
          (flipped v.number s.number false k) ∙ differs-texts ends v vs)
    ]
  where
    flipped : (a b : ℤ) (c : Bool) → int_eq b a ≡ c → int_eq a b ≡ c
    flipped a b true h = (Decides-int_eq a b).1 (sym ((Decides-int_eq b a).0 h))
    flipped a b false h =
        elim (cases_Bool (int_eq a b)) [
          | inl k ↦ absurd (true≢false (sym ((Decides-int_eq b a).1
              (sym ((Decides-int_eq a b).0 k))) ∙ h))
          | inr k ↦ k
        ]

-- ---- rules

-- the texts of the version are those that are due
due-texts : (ends : LineEnds) (n : ℤ) (vs : List Version) (r : Result Text ℕ)
    → due_rule ends (texts_at n vs) r ≡ text_rule ends vs n r
due-texts ends n vs (Ok t) =
    ap (λ b. if b then Some 702 else None) (sym (differs-texts ends (versioned n t) vs))
due-texts ends n vs (Err rule) = refl

pub change-due : (terms : Terms) (vs : List Version) (due : List Text) (enc : Encoding)
    (k : SyncKind) (n : ℤ) (cs : List Edit) (o : Option Version) → due ≡ texts_at n vs
    → rule_with terms.limit terms.line_ends due enc k n cs o ≡ change_rule terms vs enc k n cs o
change-due terms vs due enc k n cs None is = refl
change-due terms vs due enc k n cs (Some v) is =
    ap (λ r. first_row ((not (int_lt v.number n), Some 603) ∷ (
      not (fits_kind k cs),
      Some 604,
    ) ∷ (true, r) ∷ []))
    (ap (λ d. due_rule terms.line_ends d (applied terms.limit enc v.text cs)) is
    ∙ due-texts terms.line_ends n vs (applied terms.limit enc v.text cs))

module _ (vs ws : List Version) (h : SameOrder vs ws) where
  version-same : (ends : LineEnds) (v : Version) → version_rule ends vs v ≡ version_rule ends ws v
  version-same ends v =
      ap (λ b. if b then Some 702 else None)
      (differs-texts ends v vs
      ∙ (ap (list_any (λ t. not (same_text ends v.text t))) (order-texts v.number vs ws h)
      ∙ sym (differs-texts ends v ws)))

  text-same : (ends : LineEnds) (n : ℤ) (r : Result Text ℕ)
      → text_rule ends vs n r ≡ text_rule ends ws n r
  text-same ends n (Ok t) = version-same ends (versioned n t)
  text-same ends n (Err rule) = refl

  change-same : (terms : Terms) (enc : Encoding) (k : SyncKind) (n : ℤ) (cs : List Edit)
      (o : Option Version) → change_rule terms vs enc k n cs o ≡ change_rule terms ws enc k n cs o
  change-same terms enc k n cs None = refl
  change-same terms enc k n cs (Some v) =
      ap (λ r. first_row ((not (int_lt v.number n), Some 603) ∷ (
        not (fits_kind k cs),
        Some 604,
      ) ∷ (true, r) ∷ []))
      (text-same terms.line_ends n (applied terms.limit enc v.text cs))

  -- the order of snapshots of several numbers doesn't matter to a rule
  pub rule-same : (terms : Terms) (o : Option Version) (ks : List Version) (c : Call)
      → rule_of terms o ks vs c ≡ rule_of terms o ks ws c
  rule-same terms o ks (opens u n t) =
      ap (λ r. first_row ((is_some o, Some 601) ∷ (
        nat_lt terms.limit (byte_len t),
        Some 607,
      ) ∷ (true, r) ∷ [])) (version-same terms.line_ends (versioned n t))
  rule-same terms o ks (changes enc k u n cs) = change-same terms enc k n cs o
  rule-same terms o ks _ = refl
