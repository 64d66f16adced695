use Rattle.std.proofs.Common.{◌≡◌, ◌+◌, length}
use Rattle.lsp_docs.specs.State.{capped}
use Rattle.lsp_docs.proofs.Due.{sizes}
use Rattle.lsp_docs.proofs.queue.SnapshotQueue.len.Given as goal

abbrev pub invariant-loop-texts : goal.invariant-loop-texts
invariant-loop-texts l =
    (capped (l.count + sizes l.texts-iterator) ≡ capped (length l.self))
    × (capped l.count ≡ l.count)
