use Rattle.std.proofs.Common.{◌≡◌, ◌∙◌, List, refl, sym}
use Rattle.std.specs.List.{list_all}
use Rattle.std.proofs.lemmas.List.Folds.{list_all-map}
use Rattle.lsp_types.specs.declared.change.Change.{Change}
use Rattle.lsp_types.specs.declared.change.SyncKind.{SyncKind}
use Rattle.lsp_types.specs.declared.change.SyncKind.TheVariants.{Nothing, Full, Incremental}
use Rattle.lsp_text.specs.Changes.{edit_of, edits_of}
use Rattle.lsp_docs.specs.Rules as rules
use Rattle.lsp_docs.proofs.kind.fits_kind.Goals as goal

all_fit : (kind : SyncKind) (cs : List Change) → (kind ≡ Nothing → ⊥)
    → list_all (λ c. rules.is_of_kind kind (edit_of c)) cs ≡ rules.fits_kind kind (edits_of cs)
all_fit Nothing cs some = absurd (some refl)
all_fit Full cs some = sym (list_all-map (rules.is_of_kind Full) edit_of cs)
all_fit Incremental cs some = sym (list_all-map (rules.is_of_kind Incremental) edit_of cs)

pub returns-in_default : goal.returns-in_default
returns-in_default c = c.are_of_kind.ensures ∙ all_fit _ _ c.in_default.not-Nothing
