use Rattle.std.proofs.Common.{◌≡◌, ℕ, length, subst}
use Rattle.std.proofs.lemmas.List.{length-map}
use Rattle.lsp_text.specs.Changes.{edit_of, edits_of}
use Rattle.lsp_docs.specs.Tried.{IsMade}
use Rattle.lsp_docs.proofs.Trying.{tried_all}
use Rattle.lsp_docs.proofs.document.Document.change_copy.Goals as goal

-- all are made, and a snapshot refutes the text
pub returns-then-refutes-clause-tried : goal.returns-then-refutes-clause-tried
returns-then-refutes-clause-tried g c = λ rule.
    let content = g.S.TextStore.content in
    let t = content c.args.self.now.held.store in
    let made = content c.in_ok-changed.changed in
    let cs = edits_of c.args.changes.now in
    let all : length cs ≡ length c.args.changes.now = length-map c.args.changes.now edit_of in
    subst (λ (n : ℕ). IsMade c.args.terms.limit c.args.encoding t cs n made) all
    (tried_all c.args.terms.limit c.args.encoding t made cs c.in_ok-changed.ensures.ok)
