-- The changes of the code, as the definitions see them.
use Rattle.std.proofs.Common.{◌≡◌, List, [], ◌∷◌, refl, ap}
use Rattle.std.specs.Prelude.{map}
use Rattle.lsp_rpc.specs.View.{changes_view}
use Rattle.lsp_types.specs.declared.change.Change.{Change}
use Rattle.lsp_text.specs.Changes as changes
use Rattle.lsp_verdict.specs.Event.{edit_of}

pub edits_seen : (cs : List Change) → changes.edits_of cs ≡ map edit_of (changes_view cs)
edits_seen [] = refl
edits_seen (c ∷ cs) = ap (λ es. changes.edit_of c ∷ es) (edits_seen cs)
