use Rattle.std.proofs.Common.{◌≡◌, [], ◌∷◌, List, None, subst, sym}
use Rattle.lsp_text.specs.Changes.{edit_of, edits_of}
use Rattle.lsp_text.specs.Edits.{Edit}
use Rattle.lsp_docs.specs.Tried.{AreTried}
use Rattle.lsp_docs.proofs.Trying.{one_edit, tried_none}
use Rattle.lsp_docs.proofs.document.Document.change.Goals as goal

-- a lone change, which is made in the held text itself
pub returns-in-Err-clause-tried : goal.returns-in-Err-clause-tried
returns-in-Err-clause-tried g c = λ rule early.
    let t = g.S.TextStore.content c.args.self.now.held.store in
    let edit = c.index-changes-0.result in
    let one : edits_of c.args.changes.now ≡ edit_of edit ∷ [] =
    one_edit c.args.changes.now edit c.if-changes-eq1.true c.index-changes-0.is in
    subst (λ (es : List Edit). AreTried c.args.terms.limit c.args.encoding t es None) (sym one)
    (tried_none c.args.terms.limit c.args.encoding t (edit_of edit) c.in-Err.fault
    c.in-Err.ensures.fault rule)
