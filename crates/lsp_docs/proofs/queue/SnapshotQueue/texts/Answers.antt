use Rattle.std.proofs.Common.{sym, ap, ◌∙◌, w32}
use Rattle.std.proofs.lemmas.Int.{to_z-of_z}
use mir.Val.{SFits}
use Rattle.lsp_docs.specs.Snapshots.{texts_at}
use Rattle.lsp_docs.proofs.Due.{texts-found}
use Rattle.lsp_docs.proofs.queue.SnapshotQueue.texts.Goals as goal

pub returns : goal.returns
returns c =
    let fits : SFits w32 c.args.version = c.ranges.version in
    let version = c.args.version in
    let at = simp to_z-of_z at c.get.ensures.value in
    texts-found version c.self.inside.texts.entries _ c.self.invariant (sym at)
    ∙ ap (texts_at version) c.self.view_is
