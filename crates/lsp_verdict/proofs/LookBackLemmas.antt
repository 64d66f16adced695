-- One more element, behind others that were looked back on.
use Rattle.std.proofs.Common.{◌≡◌, List, [], ◌∷◌, ◌++◌, refl, sym, ap, ◌∙◌, append_assoc, Option, Some, None}
use Rattle.std.proofs.lemmas.List.{append-nil}
use Rattle.std.specs.Option.{option_or}
use Rattle.std.specs.List.{cons_option}
use Rattle.lsp_session.proofs.LawLemmas.{none_left}
use Rattle.lsp_session.proofs.Steps.{option_or-assoc, option_or-none}
use Rattle.lsp_verdict.specs.LookBack.{first_from, first_of, each_from, each_of}

pub first_from-append : {A X : Type 0} (f : List A → A → Option X) (before xs ys : List A) → first_from f before (xs ++ ys) ≡ option_or (first_from f before xs) (first_from f (before ++ xs) ys)
first_from-append f before [] ys = ap (λ b. first_from f b ys) (sym (append-nil before))
first_from-append f before (x ∷ xs) ys =
    ap (option_or (f before x)) (first_from-append f (before ++ x ∷ []) xs ys)
    ∙ option_or-assoc (f before x) (first_from f (before ++ x ∷ []) xs) (first_from f ((before ++ x ∷ []) ++ xs) ys)
    ∙ ap (λ b. option_or (option_or (f before x) (first_from f (before ++ x ∷ []) xs)) (first_from f b ys)) (append_assoc before (x ∷ []) xs)

-- the first of more elements is that of the first ones, if these have one
pub first_of-append : {A X : Type 0} (f : List A → A → Option X) (xs ys : List A) → first_of f (xs ++ ys) ≡ option_or (first_of f xs) (first_from f xs ys)
first_of-append f xs ys = first_from-append f [] xs ys

pub first_of-snoc : {A X : Type 0} (f : List A → A → Option X) (xs : List A) (x : A) → first_of f (xs ++ x ∷ []) ≡ option_or (first_of f xs) (f xs x)
first_of-snoc f xs x = first_from-append f [] xs (x ∷ []) ∙ ap (option_or (first_of f xs)) (option_or-none (f xs x))

-- what was first stays first, however the list goes on
pub first_of-more : {A X : Type 0} (f : List A → A → Option X) (xs ys : List A) (v : X) → first_of f xs ≡ Some v → first_of f (xs ++ ys) ≡ Some v
first_of-more f xs ys v e = first_from-append f [] xs ys ∙ ap (λ o. option_or o (first_from f xs ys)) e

none_right : {X : Type 0} (a b : Option X) → option_or a b ≡ None → b ≡ None
none_right None b e = e
none_right (Some x) b e = cc

pub or_none_parts : {X : Type 0} (a b : Option X) → option_or a b ≡ None → (a ≡ None) × (b ≡ None)
or_none_parts a b e = (none_left a b e, none_right a b e)

-- where nothing is found, no element has anything
pub first_of-none : {A X : Type 0} (f : List A → A → Option X) (xs ys : List A) (x : A) → first_of f (xs ++ x ∷ ys) ≡ None → f xs x ≡ None
first_of-none f xs ys x e = none_left (f xs x) _ (none_right (first_of f xs) _ (sym (first_of-append f xs (x ∷ ys)) ∙ e))

pub cons_append : {X : Type 0} (o : Option X) (xs ys : List X) → cons_option o (xs ++ ys) ≡ cons_option o xs ++ ys
cons_append None xs ys = refl
cons_append (Some x) xs ys = refl

pub each_from-append : {A X : Type 0} (f : List A → A → Option X) (before xs ys : List A) → each_from f before (xs ++ ys) ≡ each_from f before xs ++ each_from f (before ++ xs) ys
each_from-append f before [] ys = ap (λ b. each_from f b ys) (sym (append-nil before))
each_from-append f before (x ∷ xs) ys =
    ap (cons_option (f before x)) (each_from-append f (before ++ x ∷ []) xs ys)
    ∙ cons_append (f before x) (each_from f (before ++ x ∷ []) xs) (each_from f ((before ++ x ∷ []) ++ xs) ys)
    ∙ ap (λ b. cons_option (f before x) (each_from f (before ++ x ∷ []) xs) ++ each_from f b ys) (append_assoc before (x ∷ []) xs)

pub each_of-snoc : {A X : Type 0} (f : List A → A → Option X) (xs : List A) (x : A) → each_of f (xs ++ x ∷ []) ≡ each_of f xs ++ cons_option (f xs x) []
each_of-snoc f xs x = each_from-append f [] xs (x ∷ [])
