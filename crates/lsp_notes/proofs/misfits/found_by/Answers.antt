use Rattle.std.proofs.Common.{◌∙◌}
use Rattle.std.proofs.lemmas.Result.{IfOk-weaker}
use Rattle.lsp_trail.specs.Common.{edits_of, held}
use Rattle.lsp_docs.specs.Snapshots.{versions_of, waiting}
use Rattle.lsp_notes.proofs.Misfitting.{finds_nothing, found_there, found_unheld}
use Rattle.lsp_notes.proofs.misfits.found_by.Goals as goal

-- the call changes nothing
pub returns-in_default : goal.returns-in_default
returns-in_default c = λ calls stands breaks.
    c.none.ensures
    ∙ finds_nothing c.args.call c.in_default.not-Changes c.args.docs.now.terms calls

-- the document is not open
pub returns-in_default-store_of : goal.returns-in_default-store_of
returns-in_default-store_of c = rw c.in-Changes.is (λ calls stands breaks.
    c.none-in_default-store_of.ensures
    ∙ found_unheld c.args.docs.now.terms.limit c.in-Changes.encoding
    (held c.args.docs.now.terms c.in-Changes.uri.now calls) (edits_of c.in-Changes.changes.now)
    (c.in_default-store_of.ensures calls stands))

-- it is
pub returns : goal.returns
returns c = rw c.in-Changes.is (IfOk-weaker c.found_in.result _ _
    (λ found are calls stands breaks.
    let terms = c.args.docs.now.terms in
    let uri = c.in-Changes.uri.now in
    found_there terms (versions_of uri (waiting terms calls)) c.in-Changes.encoding
    c.in-Changes.kind c.in-Changes.version (edits_of c.in-Changes.changes.now)
    (held terms uri calls) _ c.limit.result found c.limit.ensures (c.in-Some.ensures calls stands)
    breaks are) c.found_in.ensures)
