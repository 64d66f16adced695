-- Texts of which two differ or none.
use Rattle.std.proofs.Common.{◌≡◌, Bool, true, false, ◌||◌, List, [], ◌∷◌, ◌++◌, refl, sym, ap}
use Rattle.std.proofs.Common.{◌∙◌, inl, inr, ℕ, Some, string_bytes, String, Global}
use Rattle.std.specs.Prelude.{not, slice_get}
use Rattle.std.specs.List.{list_any}
use Rattle.std.specs.Str.{bytes_eq, chars}
use Rattle.std.proofs.lemmas.Bool.{cases_Bool}
use Rattle.std.proofs.lemmas.List.{map-append}
use Rattle.std.proofs.lemmas.List.Folds.{list_any-append}
use Rattle.std.proofs.lemmas.Option.{none-some, same_Some}
use Rattle.std.proofs.Math.Bool.{or-false, or-true}
use Rattle.lsp_types.specs.declared.line_ends.LineEnds.{LineEnds}
use Rattle.lsp_text.specs.SameText.{SameText, compared, same_text}
use Rattle.lsp_docs.specs.Stored.{are_mixed, text_of, texts_of}
use Rattle.lsp_docs.specs.Calls.{Text}
use Rattle.lsp_docs.proofs.Words.{uri_flip, uri_is}

-- texts that a comparison says are the same
same_is : (ends : LineEnds) (a b : Text) → same_text ends a b ≡ true → SameText ends a b
same_is ends a b h = uri_is (compared ends a) (compared ends b) h

-- one of the texts is another than this one
abbrev pub any_other : LineEnds → Text → List Text → Bool
any_other ends text = list_any (λ t. not (same_text ends text t))

-- which are others than the first, where the first is this one
others : (ends : LineEnds) (text first : Text) (ts : List Text) → SameText ends text first
    → any_other ends text ts ≡ list_any (λ t. not (same_text ends t first)) ts
others ends text first [] is = refl
others ends text first (t ∷ ts) is =
    rw (others ends text first ts is)
    (ap (λ b. not b || list_any (λ t. not (same_text ends t first)) ts)
    (uri_flip (compared ends text) (compared ends t) ∙ ap (bytes_eq (compared ends t)) is))

-- where none do, the first speaks for all
pub alike_any : (ends : LineEnds) (text first : Text) (ts : List Text)
    → are_mixed ends (first ∷ ts) ≡ false
    → not (same_text ends text first) ≡ any_other ends text (first ∷ ts)
alike_any ends text first ts alike = elim (cases_Bool (same_text ends text first)) [
  | inl p ↦ rw p (sym (others ends text first ts (same_is ends text first p) ∙ alike))
  | inr p ↦ rw p refl
]

-- the same of the first that is kept
pub alike-first : (ends : LineEnds) (text : Text) (ss : List (String Global)) (s : String Global)
    → slice_get ss 0 ≡ Some s → are_mixed ends (texts_of ss) ≡ false
    → not (same_text ends text (text_of s)) ≡ any_other ends text (texts_of ss)
alike-first ends text [] s there alike = absurd (none-some s there)
alike-first ends text (first ∷ ss) s there alike =
    ap (λ x. not (same_text ends text (text_of x))) (sym (same_Some first s there))
    ∙ alike_any ends text (text_of first) (texts_of ss) alike

-- one text more
pub mixed-push : (ends : LineEnds) (ts : List Text) (text : Text)
    → are_mixed ends (ts ++ text ∷ []) ≡ any_other ends text ts
mixed-push ends [] text = refl
mixed-push ends (first ∷ ts) text =
    let test : Text → Bool = λ t. not (same_text ends t first) in
    list_any-append test ts (text ∷ [])
    ∙ elim (cases_Bool (same_text ends text first)) [
      | inl p ↦ rw p (or-false (list_any test ts)
          ∙ sym (others ends text first ts (same_is ends text first p)))
      | inr p ↦ rw p (or-true (list_any test ts))
    ]

-- the same of those that are kept
pub mixed-kept : (ends : LineEnds) (ss new : List (String Global)) (s : String Global)
    (bytes : List ℕ) → bytes ≡ string_bytes s → new ≡ ss ++ s ∷ []
    → any_other ends (chars bytes) (texts_of ss) ≡ are_mixed ends (texts_of new)
mixed-kept ends ss new s bytes is more =
    ap (λ b. any_other ends (chars b) (texts_of ss)) is
    ∙ (sym (mixed-push ends (texts_of ss) (text_of s))
    ∙ ap (are_mixed ends) (sym (ap texts_of more ∙ map-append text_of ss (s ∷ []))))
