-- The last message that changed a document, and those that saved documents that were not open, with
-- one event more.
use Rattle.std.specs.Prelude.{MatchOption, is_some, nat_lt, not}
use Rattle.std.specs.List.{cons_option, last_or}
use Rattle.std.specs.Option.{option_or}
use Rattle.std.proofs.Common.{◌≡◌, ◌<◌, ◌+◌, ℕ, true, false, List, [], ◌∷◌, ◌++◌, Option, Some, None}
use Rattle.std.proofs.Common.{refl, sym, ap, ◌∙◌, append-nil, arith}
use Rattle.std.proofs.lemmas.Bool.Decides.{nat_tests}
use Rattle.lsp_trail.specs.History.{OnDocument, last_ones}
use Rattle.lsp_trail.specs.Openings.{Holds}
use Rattle.lsp_trail.specs.LastChange.{most_edits_size}
use Rattle.lsp_trail.specs.declared.openings.DocumentEvent.{DocumentEvent}

-- ---- nothing more

pub none_more : (most : ℕ) (o : Option OnDocument) (held : List DocumentEvent) → o ≡ None
    → Holds most (cons_option o []) held held
none_more most o held none = λ ons are.
    are
    ∙ ap (last_ones most) (sym (append-nil ons))
    ∙ ap (λ (w : Option OnDocument). last_ones most (ons ++ cons_option w [])) (sym none)

-- ---- the last one

behind : {A : Type 0} (first : Option A) (xs : List A) (x : A)
    → Some x ≡ last_or first (xs ++ x ∷ [])
behind first [] x = refl
behind first (y ∷ ys) x = behind (Some y) ys x

-- it is this, or else that of those before it
pub last_more : {A : Type 0} (o : Option A) (old new : List A) → new ≡ old ++ cons_option o []
    → option_or o (last_or None old) ≡ last_or None new
last_more None old new more = ap (last_or None) (sym (more ∙ append-nil old))
last_more (Some x) old new more = behind None old x ∙ ap (last_or None) (sym more)

-- ---- those that are small enough

large_so : (size : ℕ) → most_edits_size < size → false ≡ not (nat_lt most_edits_size size)
large_so size large = grind (arith, nat_tests)

fits_so : (size left : ℕ) → left + size ≡ most_edits_size → true ≡ not (nat_lt most_edits_size size)
fits_so size left is = grind (arith, nat_tests)

-- there is room for them
pub small_so : (size : ℕ) (left : Option ℕ)
    → MatchOption left (most_edits_size < size) (λ l. l + size ≡ most_edits_size)
    → is_some left ≡ not (nat_lt most_edits_size size)
small_so size None large = large_so size large
small_so size (Some l) is = fits_so size l is
