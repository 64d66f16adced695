use Rattle.std.proofs.Common.{sym, ap, ◌∙◌, w32}
use Rattle.std.proofs.lemmas.Int.{to_z-of_z}
use mir.Val.{SFits}
use Rattle.lsp_docs.specs.Snapshots.{texts_at}
use Rattle.lsp_docs.proofs.Queues.{queue_of-there, queue_of-absent}
use Rattle.lsp_docs.proofs.waiting.Waiting.texts.Goals as goal

pub returns-in-Some : goal.returns-in-Some
returns-in-Some c =
    let fits : SFits w32 c.args.version = c.ranges.version in
    let told = simp to_z-of_z at c.texts.ensures in
    rw (← c.self.view_is) (told ∙ sym (ap (texts_at c.args.version)
    (queue_of-there (λ d. d) c.args.uri.now _ c.in-Some.queue.now
    (sym c.in-Some.ensures.value))))

pub returns-in-None : goal.returns-in-None
returns-in-None c =
    rw (← c.self.view_is) (sym (ap (texts_at c.args.version)
    (queue_of-absent (λ d. d) c.args.uri.now _ (sym c.in-None.ensures.value))))
