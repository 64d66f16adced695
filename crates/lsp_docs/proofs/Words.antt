-- Small lemmas on results, Booleans, lists and counts.
use Rattle.std.proofs.Common.{Result, Ok, Err, ◌≡◌, Option, Some, None, is_some, true≢false, ℕ}
use Rattle.std.proofs.Common.{List, [], ◌∷◌, map, inl, inr, Bool, true, false, ◌||◌, refl, sym, ap}
use Rattle.std.proofs.Common.{◌∙◌, filter, arith, ◌+◌, ◌&&◌}
use Rattle.std.specs.Prelude.{OnOk, ℤ, int_lt, min, ◌-◌, ◌^◌, option_map}
use Rattle.std.proofs.lemmas.Int.{ints}
use Rattle.std.specs.List.{list_any}
use Rattle.std.specs.Str.{bytes_eq}
use Rattle.std.specs.Option.{option_or}
use Rattle.std.specs.Ordering.{int_eq}
use Rattle.std.proofs.lemmas.Bool.Decides.{Decides-int_eq}
use Rattle.std.proofs.lemmas.Slice.Eq.{bytes_eq-Decides}
use Rattle.std.proofs.lemmas.Bool.{cases_Bool}
use Rattle.lsp_docs.specs.State.{capped}

pub on_ok_four : {U E : Type 0} {P Q R S T : Type 0} (r : Result U E) → (P → Q → R → S → T)
    → OnOk r P → OnOk r Q → OnOk r R → OnOk r S → OnOk r T
on_ok_four (Ok u) f p q r s = f p q r s
on_ok_four (Err e) f p q r s = tt

pub filter-none : {A : Type 0} (xs : List A) → filter (λ _. false) xs ≡ []
filter-none [] = refl
filter-none (x ∷ xs) = filter-none xs

pub filter-all : {A : Type 0} (xs : List A) → filter (λ _. true) xs ≡ xs
filter-all [] = refl
filter-all (x ∷ xs) = ap (λ l. x ∷ l) (filter-all xs)

capped_by : (top a b : ℕ) → min (min a top + b) top ≡ min (a + b) top
capped_by top a b = omega arith

pub capped-add : (a b : ℕ) → capped (capped a + b) ≡ capped (a + b)
capped-add a b = capped_by (2 ^ 64 - 1) a b

capped_both : (top a b : ℕ) → min (min a top + min b top) top ≡ min (a + b) top
capped_both top a b = omega arith

pub capped-add_capped : (a b : ℕ) → capped (capped a + capped b) ≡ capped (a + b)
capped-add_capped a b = capped_both (2 ^ 64 - 1) a b

pub uri_is : (a b : List ℕ) → bytes_eq a b ≡ true → a ≡ b
uri_is a b h = (bytes_eq-Decides a b).0 h

pub uri_same : (a : List ℕ) → bytes_eq a a ≡ true
uri_same a = (bytes_eq-Decides a a).1 refl

pub uri_flip : (a b : List ℕ) → bytes_eq a b ≡ bytes_eq b a
uri_flip a b =
    elim (cases_Bool (bytes_eq a b)) [
      | inl p ↦ rw (uri_is a b p) refl
      | inr p ↦ elim (cases_Bool (bytes_eq b a)) [
        | inl q ↦ rw (uri_is b a q) refl
        | inr q ↦ p ∙ sym q
      ]
    ]

pub lt_trans : (a b c : ℤ) → int_lt a b ≡ true → int_lt b c ≡ true → int_lt a c ≡ true
lt_trans a b c h k = grind (arith, ints)

pub equal_behind : (m n : ℤ) → int_eq m n ≡ true → int_lt m n ≡ false
equal_behind m n h = grind (arith, ints)

pub less_behind : (m n : ℤ) → int_lt n m ≡ true → int_lt m n ≡ false
less_behind m n h = grind (arith, ints)

pub and_first : (b x : Bool) → b ≡ true → (b && x) ≡ x
and_first b x p = rw p refl

pub any-map : {A B : Type 0} (p : B → Bool) (f : A → B) (xs : List A)
    → list_any p (map f xs) ≡ list_any (λ x. p (f x)) xs
any-map p f [] = refl
any-map p f (x ∷ xs) = ap (λ b. p (f x) || b) (any-map p f xs)

pub int_is : (m n : ℤ) → int_eq m n ≡ true → m ≡ n
int_is m n h = (Decides-int_eq m n).0 h

pub unchanged : {A : Type 0} (o : Option A) → option_or (option_map (λ v. v) o) None ≡ o
unchanged None = refl
unchanged (Some v) = refl

pub no_some : {A : Type 0} (o : Option A) → is_some o ≡ false → o ≡ None
no_some None h = refl
no_some (Some x) h = absurd (true≢false h)
