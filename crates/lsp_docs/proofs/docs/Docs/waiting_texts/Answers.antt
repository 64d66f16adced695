use Rattle.std.proofs.Common.{ap, ◌∙◌, w32}
use Rattle.std.proofs.lemmas.Int.{to_z-of_z}
use mir.Val.{SFits}
use Rattle.lsp_docs.specs.Snapshots.{texts_at, waiting, versions_of}
use Rattle.lsp_docs.specs.State.{queue_of}
use Rattle.lsp_docs.proofs.SameVersions.{order-texts}
use Rattle.lsp_docs.proofs.docs.Docs.waiting_texts.Goals as goal

pub returns-in-Some : goal.returns-in-Some
returns-in-Some g c = λ calls h.
    let fits : SFits w32 c.args.version = c.ranges.version in
    let s = c.args.self.now in
    let uri = c.args.uri.now in
    let told = simp to_z-of_z at c.in-Some.ensures in
    c.as_slice.ensures
    ∙ told
    ∙ (ap (λ x. texts_at c.args.version (queue_of uri x.waits.queues)) c.self.view_is
    ∙ order-texts c.args.version (queue_of uri s.waits.queues)
    (versions_of uri (waiting s.terms calls)) (h.waits.queues uri))

pub returns-in-None : goal.returns-in-None
returns-in-None g c = λ calls h.
    let fits : SFits w32 c.args.version = c.ranges.version in
    let s = c.args.self.now in
    let uri = c.args.uri.now in
    let told = simp to_z-of_z at c.in-None.ensures in
    told
    ∙ (ap (λ x. texts_at c.args.version (queue_of uri x.waits.queues)) c.self.view_is
    ∙ order-texts c.args.version (queue_of uri s.waits.queues)
    (versions_of uri (waiting s.terms calls)) (h.waits.queues uri))
