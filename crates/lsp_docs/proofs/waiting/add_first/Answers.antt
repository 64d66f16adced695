use Rattle.std.proofs.Common.{sym, subst, w32}
use Rattle.std.proofs.lemmas.Int.{to_z-of_z}
use mir.Val.{SFits}
use Rattle.lsp_docs.specs.Documents.{versioned}
use Rattle.lsp_docs.specs.State.{IsAdded}
use Rattle.lsp_docs.specs.Stored.{text_of, queues_in}
use Rattle.lsp_docs.proofs.Queues.{added-new}
use Rattle.lsp_docs.proofs.waiting.add_first.Goals as goal

pub returns-clause-ok : goal.returns-clause-ok
returns-clause-ok c =
    let fits : SFits w32 c.args.version = c.ranges.version in
    let one = simp to_z-of_z at c.in_ok-waiting.ensures in
    let v = versioned c.args.version (text_of c.args.text) in
    subst (λ es. IsAdded c.args.uri.now v (queues_in c.args.snapshots.now.entries) (queues_in es))
    (sym c.in_ok-insert.ensures.entries)
    (added-new (λ d. d) c.args.uri.now v c.in_ok-key.key c.in_ok-waiting.waiting
    c.in_ok-key.ensures.ok one _ c.requires)
