use Rattle.lsp_replay.proofs.Listing.{listed_all, listed_next}
use Rattle.lsp_replay.proofs.summary.open_documents.Goals as goal

pub loop-uri-preserved : goal.loop-uri-preserved
loop-uri-preserved g c = λ calls stands.
    let found = c.loop-uri.found.items in
    let new = c.push.new.self.items in
    listed_next c.args.docs.now calls found new c.loop-uri.uris c.next.new.self
    c.in_ok-open_document.field-0 c.in-Some.uri.now stands (c.loop-uri.invariant calls stands)
    c.in-Some.ensures.next c.in-Some.ensures.rest c.in_ok-push.ensures.items
    (λ version is. c.in_ok-open_document.ensures calls version stands is)

pub returns : goal.returns
returns g c = λ calls stands.
    listed_all c.args.docs.now calls c.loop-uri.found.items c.loop-uri.uris
    (c.loop-uri.invariant calls stands) c.in_default.ensures.next
