-- The numbers of names: what they are with one more name.
use Rattle.std.proofs.Common.{◌≡◌, ℕ, ◌+◌, ◌<◌, Bool, true, false, cond, List, [], ◌∷◌, ◌++◌, map, length}
use Rattle.std.proofs.Common.{filter, refl, sym, ap, subst, ◌∙◌, Some, None, true≢false, get_or}
use Rattle.std.proofs.Common.{append-nil, arith, String, Global, string_bytes, inl, inr, length-append}
use Rattle.std.proofs.Common.{◌⊎◌, ◌≤◌, suc}
use Rattle.std.specs.Prelude.{not, ◌||◌}
use Rattle.std.specs.List.{list_any, prefix_len}
use Rattle.std.specs.Map.{lookup}
use Rattle.std.specs.Str.{bytes_eq}
use Rattle.std.proofs.Math.ListN.{get_or-append}
use Rattle.std.proofs.Math.Seq.{get_or-append_seam}
use Rattle.std.proofs.lemmas.Bool.{cases_lt, or_parts}
use Rattle.std.proofs.lemmas.List.{length-map, map-append}
use Rattle.std.proofs.lemmas.List.Elements.{filter-append}
use Rattle.std.proofs.lemmas.Map.Views.{any-filter_same}
use Rattle.std.proofs.lemmas.Slice.Eq.{bytes_eq-Decides}
use Rattle.lsp_rpc.specs.Act.{Text}
use Rattle.lsp_types.specs.Texts.{is_text}
use Rattle.lsp_redact.specs.Names.{distinct, number_of}
use Rattle.lsp_redact.specs.Numbered.{AreNumbered}

-- another name than this one
abbrev pub other_than : Text → Text → Bool
other_than name other = not (bytes_eq name other)

-- it is one of these
abbrev pub is_among : Text → List Text → Bool
is_among name names = list_any (bytes_eq name) names

-- ---- two names

pub same_itself : (a : Text) → bytes_eq a a ≡ true
same_itself a = (bytes_eq-Decides a a).1 refl

-- two names are the same whichever comes first
same_either : (a b : Text) → bytes_eq a b ≡ bytes_eq b a
same_either a b = by_answer (bytes_eq a b) refl (bytes_eq b a) refl
  where
    by_answer : (x : Bool) → bytes_eq a b ≡ x → (y : Bool) → bytes_eq b a ≡ y → x ≡ y
    by_answer true p false q = sym ((bytes_eq-Decides b a).1 (sym ((bytes_eq-Decides a b).0 p))) ∙ q
    by_answer false p true q = sym p ∙ (bytes_eq-Decides a b).1 (sym ((bytes_eq-Decides b a).0 q))
    by_answer _ p _ q = refl

-- a name is another than one that it differs from
differs_other : (x name k : Text) → bytes_eq name x ≡ false → bytes_eq name k ≡ true
    → other_than x k ≡ true
differs_other x name k differs same =
    ap (λ (t : Text). not (bytes_eq x t)) (sym ((bytes_eq-Decides name k).0 same))
    ∙ ap not (same_either x name ∙ differs)

-- ---- what is left of names where others come before them

left_over : List Text → List Text → List Text
left_over [] ys = ys
left_over (x ∷ xs) ys = filter (other_than x) (left_over xs ys)

distinct-append : (xs ys : List Text) → distinct (xs ++ ys) ≡ distinct xs ++ left_over xs (distinct ys)
unfolding left_over
distinct-append [] ys = refl
distinct-append (x ∷ xs) ys =
    ap (λ (zs : List Text). x ∷ filter (other_than x) zs) (distinct-append xs ys)
    ∙ ap (λ (zs : List Text). x ∷ zs)
    (filter-append (other_than x) (distinct xs) (left_over xs (distinct ys)))

left_none : (xs : List Text) → left_over xs [] ≡ []
unfolding left_over
left_none [] = refl
left_none (x ∷ xs) = ap (filter (other_than x)) (left_none xs)

-- a new name stays
left_new : (xs : List Text) (name : Text) (rest : List Text) → is_among name xs ≡ false
    → left_over xs (name ∷ rest) ≡ name ∷ left_over xs rest
unfolding left_over
left_new [] name rest h = refl
left_new (x ∷ xs) name rest h =
    let parts : (bytes_eq name x ≡ false) × (is_among name xs ≡ false) = or_parts _ _ h in
    ap (filter (other_than x)) (left_new xs name rest parts.1)
    ∙ ap (λ (b : Bool). cond (not b) (name ∷ filter (other_than x) (left_over xs rest))
    (filter (other_than x) (left_over xs rest))) (same_either x name ∙ parts.0)

-- one that is there already does not
left_old : (xs : List Text) (name : Text) → is_among name xs ≡ true → left_over xs (name ∷ []) ≡ []
unfolding left_over
left_old [] name h = absurd (true≢false (sym h))
left_old (x ∷ xs) name h = by_first (λ k. left_old xs name k) (bytes_eq name x) refl h
  where
    by_rest : (is_among name xs ≡ true → left_over xs (name ∷ []) ≡ []) → (b : Bool)
        → is_among name xs ≡ b → bytes_eq name x ≡ true
        → filter (other_than x) (left_over xs (name ∷ [])) ≡ []
    by_rest old true is same = ap (filter (other_than x)) (old is)
    by_rest old false is same =
        ap (filter (other_than x)) (left_new xs name [] is ∙ ap (λ (zs : List Text). name ∷ zs) (left_none xs))
        ∙ ap (λ (b : Bool). cond (not b) (name ∷ []) []) (same_either x name ∙ same)

    by_first : (is_among name xs ≡ true → left_over xs (name ∷ []) ≡ []) → (b : Bool)
        → bytes_eq name x ≡ b → (b || is_among name xs) ≡ true
        → filter (other_than x) (left_over xs (name ∷ [])) ≡ []
    by_first old true is h = by_rest old (is_among name xs) refl is
    by_first old false is h = ap (filter (other_than x)) (old h)

pub any-distinct : (name : Text) (xs : List Text) → is_among name (distinct xs) ≡ is_among name xs
any-distinct name [] = refl
any-distinct name (x ∷ xs) = by_first (any-distinct name xs) (bytes_eq name x) refl
  where
    by_first : is_among name (distinct xs) ≡ is_among name xs → (b : Bool) → bytes_eq name x ≡ b
        → (b || is_among name (filter (other_than x) (distinct xs))) ≡ (b || is_among name xs)
    by_first rest true is = refl
    by_first rest false is =
        any-filter_same (bytes_eq name) (other_than x) true
        (λ k same. differs_other x name k is same) (distinct xs) ∙ rest

-- ---- one more name

old_name : (names : List Text) (name : Text) → is_among name (distinct names) ≡ true
    → is_among name names ≡ true
old_name names name h = sym (any-distinct name names) ∙ h

new_name : (names : List Text) (name : Text) → is_among name (distinct names) ≡ false
    → is_among name names ≡ false
new_name names name h = sym (any-distinct name names) ∙ h

pub distinct_old : (names : List Text) (name : Text) → is_among name (distinct names) ≡ true
    → distinct (names ++ name ∷ []) ≡ distinct names
distinct_old names name h =
    distinct-append names (name ∷ [])
    ∙ ap (λ (zs : List Text). distinct names ++ zs) (left_old names name (old_name names name h))
    ∙ append-nil (distinct names)

pub distinct_new : (names : List Text) (name : Text) → is_among name (distinct names) ≡ false
    → distinct (names ++ name ∷ []) ≡ distinct names ++ name ∷ []
distinct_new names name h =
    distinct-append names (name ∷ [])
    ∙ ap (λ (zs : List Text). distinct names ++ zs)
    (left_new names name [] (new_name names name h) ∙ ap (λ (zs : List Text). name ∷ zs) (left_none names))

-- ---- numbers

one_more : (n k : ℕ) → n ≡ k → 1 + n ≡ suc k
one_more n k h = omega (arith, h)

-- names before which none is the same
prefix_found : (name : Text) (ds zs : List Text) → is_among name ds ≡ true
    → prefix_len (other_than name) (ds ++ zs) ≡ prefix_len (other_than name) ds
prefix_found name [] zs h = absurd (true≢false (sym h))
prefix_found name (d ∷ ds) zs h =
    by_first (λ k. prefix_found name ds zs k) (bytes_eq name d) h
  where
    by_first : (is_among name ds ≡ true
        → prefix_len (other_than name) (ds ++ zs) ≡ prefix_len (other_than name) ds)
        → (b : Bool) → (b || is_among name ds) ≡ true
        → cond (not b) (1 + prefix_len (other_than name) (ds ++ zs)) 0
        ≡ cond (not b) (1 + prefix_len (other_than name) ds) 0
    by_first rest true h = refl
    by_first rest false h = ap (λ (n : ℕ). 1 + n) (rest h)

prefix_past : (name : Text) (ds zs : List Text) → is_among name ds ≡ false
    → prefix_len (other_than name) (ds ++ name ∷ zs) ≡ length ds
prefix_past name [] zs h =
    ap (λ (b : Bool). cond (not b) (1 + prefix_len (other_than name) zs) 0) (same_itself name)
prefix_past name (d ∷ ds) zs h =
    let parts : (bytes_eq name d ≡ false) × (is_among name ds ≡ false) = or_parts _ _ h in
    ap (λ (b : Bool). cond (not b) (1 + prefix_len (other_than name) (ds ++ name ∷ zs)) 0) parts.0
    ∙ one_more _ _ (prefix_past name ds zs parts.1)

-- the number of a name that is there already
pub number_old : (names more : List Text) (name : Text) → is_among name (distinct names) ≡ true
    → number_of (names ++ name ∷ more) name ≡ prefix_len (other_than name) (distinct names) + 1
number_old names more name h =
    ap (λ (ds : List Text). prefix_len (other_than name) ds + 1)
    (distinct-append names (name ∷ more))
    ∙ ap (λ (n : ℕ). n + 1)
    (prefix_found name (distinct names) (left_over names (distinct (name ∷ more))) h)

-- and of a new one
pub number_new : (names more : List Text) (name : Text) → is_among name (distinct names) ≡ false
    → number_of (names ++ name ∷ more) name ≡ length (distinct names) + 1
number_new names more name h =
    let rest : List Text = filter (other_than name) (distinct more) in
    ap (λ (ds : List Text). prefix_len (other_than name) ds + 1)
    (distinct-append names (name ∷ more)
    ∙ ap (λ (zs : List Text). distinct names ++ zs)
    (left_new names name rest (new_name names name h)))
    ∙ ap (λ (n : ℕ). n + 1)
    (prefix_past name (distinct names) (left_over names rest) h)

-- ---- names with their numbers

abbrev Entry : Type 0
Entry = String Global × ℕ

abbrev pub names_in : List Entry → List Text
names_in es = map (λ (e : Entry). string_bytes e.0) es

abbrev pub numbers_in : List Entry → List ℕ
numbers_in es = map (λ (e : Entry). e.1) es

-- a name that is found, and the number that it has there
pub record IsFound (name : Text) (es : List Entry) (number : ℕ) : Type 0 where
  pub among : is_among name (names_in es) ≡ true
  pub within : prefix_len (other_than name) (names_in es) < length (numbers_in es)
  pub is : number ≡ get_or (numbers_in es) (prefix_len (other_than name) (names_in es)) 0

found_later : (name : Text) (e : Entry) (es : List Entry) (number : ℕ)
    → bytes_eq name (string_bytes e.0) ≡ false → IsFound name es number → IsFound name (e ∷ es) number
found_later name e es number other found =
    let place : prefix_len (other_than name) (names_in (e ∷ es))
    ≡ suc (prefix_len (other_than name) (names_in es)) =
    ap (λ (b : Bool). cond (not b) (1 + prefix_len (other_than name) (names_in es)) 0) other
    ∙ one_more _ _ refl in
    record {
      among = ap (λ (b : Bool). b || is_among name (names_in es)) other ∙ found.among;
      within = let lt : prefix_len (other_than name) (names_in es) < length (numbers_in es) =
          found.within in omega (arith, place);
      is = found.is ∙ ap (λ (n : ℕ). get_or (numbers_in (e ∷ es)) n 0) (sym place);
    }

pub found_there : (name : Text) (es : List Entry) (number : ℕ)
    → lookup (is_text name) es ≡ Some number → IsFound name es number
found_there name [] number h = absurd cc
found_there name (e ∷ es) number h =
    by_first (λ k. found_there name es number k) (bytes_eq name (string_bytes e.0)) refl h
  where
    by_first : (lookup (is_text name) es ≡ Some number → IsFound name es number)
        → (b : Bool) → bytes_eq name (string_bytes e.0) ≡ b
        → cond b (Some e.1) (lookup (is_text name) es) ≡ Some number
        → IsFound name (e ∷ es) number
    by_first rest true is h =
        let place : prefix_len (other_than name) (names_in (e ∷ es)) ≡ 0 =
        ap (λ (b : Bool). cond (not b) (1 + prefix_len (other_than name) (names_in es)) 0) is in
        let same : e.1 ≡ number = cc h in
        record {
          among = ap (λ (b : Bool). b || is_among name (names_in es)) is;
          within = omega (arith, place);
          is = sym same ∙ ap (λ (n : ℕ). get_or (numbers_in (e ∷ es)) n 0) (sym place);
        }
    by_first rest false is h = found_later name e es number is (rest h)

pub not_found : (name : Text) (es : List Entry) → lookup (is_text name) es ≡ None
    → is_among name (names_in es) ≡ false
not_found name [] h = refl
not_found name (e ∷ es) h =
    by_first (λ k. not_found name es k) (bytes_eq name (string_bytes e.0)) h
  where
    by_first : (lookup (is_text name) es ≡ None → is_among name (names_in es) ≡ false)
        → (b : Bool) → cond b (Some e.1) (lookup (is_text name) es) ≡ None
        → (b || is_among name (names_in es)) ≡ false
    by_first rest true h = absurd cc
    by_first rest false h = rest h

-- ---- the number of a name

module _ (name : Text) (es : List Entry) where
  -- it is there already
  pub seen_old : (number : ℕ) → lookup (is_text name) es ≡ Some number → (names : List Text)
      → names_in es ≡ distinct names → names_in es ≡ distinct (names ++ name ∷ [])
  seen_old number h names is =
      is ∙ sym (distinct_old names name
      (ap (is_among name) (sym is) ∙ (found_there name es number h).among))

  pub numbered_old : (number : ℕ) → lookup (is_text name) es ≡ Some number
      → AreNumbered (numbers_in es) → (names more : List Text) → names_in es ≡ distinct names
      → number ≡ number_of (names ++ name ∷ more) name
  numbered_old number h numbered names more is =
      let found = found_there name es number h in
      found.is ∙ numbered (prefix_len (other_than name) (names_in es)) found.within
      ∙ ap (λ (ds : List Text). prefix_len (other_than name) ds + 1) is
      ∙ sym (number_old names more name (ap (is_among name) (sym is) ∙ found.among))

  -- it is new
  pub seen_new : (key : String Global) (number : ℕ) → string_bytes key ≡ name
      → lookup (is_text name) es ≡ None → (names : List Text) → names_in es ≡ distinct names
      → names_in (es ++ (key, number) ∷ []) ≡ distinct (names ++ name ∷ [])
  seen_new key number key_is h names is =
      map-append (λ (e : Entry). string_bytes e.0) es ((key, number) ∷ [])
      ∙ ap (λ (t : Text). names_in es ++ t ∷ []) key_is
      ∙ ap (λ (ds : List Text). ds ++ name ∷ []) is
      ∙ sym (distinct_new names name (ap (is_among name) (sym is) ∙ not_found name es h))

  pub numbered_new : (number : ℕ) → number ≡ length es + 1 → lookup (is_text name) es ≡ None
      → (names more : List Text) → names_in es ≡ distinct names
      → number ≡ number_of (names ++ name ∷ more) name
  numbered_new number number_is h names more is =
      number_is
      ∙ ap (λ (n : ℕ). n + 1) (sym (length-map es (λ (e : Entry). string_bytes e.0)))
      ∙ ap (λ (ds : List Text). length ds + 1) is
      ∙ sym (number_new names more name (ap (is_among name) (sym is) ∙ not_found name es h))

-- they are numbered with one more
pub numbered_push : (es : List Entry) (key : String Global) (number : ℕ) → number ≡ length es + 1
    → AreNumbered (numbers_in es) → AreNumbered (numbers_in (es ++ (key, number) ∷ []))
numbered_push es key number is numbered =
    subst AreNumbered (sym (map-append (λ (e : Entry). e.1) es ((key, number) ∷ [])))
    (λ k within. by_place k within (cases_lt k (length (numbers_in es))))
  where
    count : length (numbers_in es) ≡ length es
    count = length-map es (λ (e : Entry). e.1)

    by_place : (k : ℕ) → k < length (numbers_in es ++ number ∷ [])
        → (k < length (numbers_in es)) ⊎ (length (numbers_in es) ≤ k)
        → get_or (numbers_in es ++ number ∷ []) k 0 ≡ k + 1
    by_place k within (inl lt) = get_or-append (numbers_in es) (number ∷ []) 0 k lt ∙ numbered k lt
    by_place k within (inr le) =
        let last : k ≡ length (numbers_in es) =
        omega (arith, length-append (numbers_in es) (number ∷ [])) in
        ap (λ (n : ℕ). get_or (numbers_in es ++ number ∷ []) n 0) last
        ∙ get_or-append_seam (numbers_in es) number [] 0
        ∙ (let n : number ≡ k + 1 = omega (arith, is, last, count) in n)
