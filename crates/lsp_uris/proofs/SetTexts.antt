-- Changes of the text of a document, as calls have them and as they are defined.
use Rattle.std.proofs.Common.{◌≡◌, ℕ, Bool, true, List, refl, ap, arith, ◌<◌, [], ◌∷◌}
use Rattle.std.specs.Prelude.{is_none, length, ◌==◌, ◌||◌, not, ℤ}
use Rattle.std.specs.List.{list_any}
use Rattle.std.proofs.lemmas.Bool.Decides.{nat_tests}
use Rattle.lsp_docs.specs.Calls.{changes as changes_by}
use Rattle.lsp_text.specs.Changes.{edits_of}
use Rattle.lsp_text.specs.Edits.{Edit}
use Rattle.lsp_types.specs.declared.change.Change.{Change}
use Rattle.lsp_types.specs.declared.change.SyncKind.{SyncKind}
use Rattle.lsp_types.specs.declared.position.Encoding.{Encoding}
use Rattle.lsp_verdict.specs.Offences.{sets_text}

-- changes with one of the whole text
pub any_renews : (changes : List Change)
    → list_any (λ (edit : Edit). is_none edit.span) (edits_of changes)
    ≡ list_any (λ (change : Change). is_none change.span) changes
any_renews [] = refl
any_renews (c ∷ cs) = ap (λ (b : Bool). is_none c.span || b) (any_renews cs)

positive : (n : ℕ) → 0 < n → not (n == 0) ≡ true
positive n some = grind (arith, nat_tests)

-- a list of changes, or none
pub some_changes : (enc : Encoding) (kind : SyncKind) (uri : List ℕ) (number : ℤ)
    (changes : List Change)
    → not (length changes == 0) ≡ sets_text (changes_by enc kind uri number (edits_of changes))
some_changes enc kind uri number [] = refl
some_changes enc kind uri number (c ∷ cs) = positive (length (c ∷ cs)) (omega arith)
