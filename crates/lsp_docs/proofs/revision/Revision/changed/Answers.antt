use Rattle.std.proofs.Common.{List, ℕ, subst}
use Rattle.lsp_text.specs.Changes.{edits_of}
use Rattle.lsp_text.specs.Edits.{FailsAfter}
use Rattle.lsp_docs.proofs.Trying.{tried_before}
use Rattle.lsp_docs.proofs.revision.Revision.changed.Goals as goal

pub returns-in-Err-clause-tried : goal.returns-in-Err-clause-tried
returns-in-Err-clause-tried g c = λ rule.
    let content = g.S.TextStore.content in
    let cs = edits_of c.args.changes.now in
    let made = content c.change_all.new.store in
    tried_before c.args.limit c.args.encoding (content c.args.self.now.store) made cs c.in-Err.failed
    (subst (λ (t : List ℕ). FailsAfter c.args.limit c.args.encoding t cs made c.in-Err.failed)
    c.in_ok-store.ensures c.in-Err.ensures.err) rule
