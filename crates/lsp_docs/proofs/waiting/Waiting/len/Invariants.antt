use Rattle.std.proofs.Common.{◌≡◌, ◌+◌}
use Rattle.lsp_docs.specs.State.{capped, total}
use Rattle.lsp_docs.proofs.Queues.{lengths}
use Rattle.lsp_docs.proofs.waiting.Waiting.len.Given as goal

abbrev pub invariant-loop-snapshots : goal.invariant-loop-snapshots
invariant-loop-snapshots l =
    (capped (l.count + lengths l.snapshots-iterator) ≡ capped (total l.self.queues))
    × (capped l.count ≡ l.count)
