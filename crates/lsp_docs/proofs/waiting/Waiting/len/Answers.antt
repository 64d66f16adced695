use Rattle.std.proofs.Common.{◌≡◌, refl, sym, ap, ◌∙◌, arith, ◌+◌}
use Rattle.lsp_docs.specs.State.{capped, total}
use Rattle.lsp_docs.specs.Stored.{queues_in}
use Rattle.lsp_docs.proofs.Queues.{lengths, lengths-total}
use Rattle.lsp_docs.proofs.waiting.Waiting.len.Goals as goal

pub loop-snapshots-init : goal.loop-snapshots-init
loop-snapshots-init c =
    let queues = queues_in c.self.inside.snapshots.entries in
    let all = c.into_iter-snapshots-iterator.ensures.into_iter_gives
    ∙ c.values-snapshots-items.ensures.rest in
    let none : 0 + total queues ≡ total queues = omega arith in (
      ap (λ l. capped (0 + lengths l)) all
          ∙ (ap (λ n. capped (0 + n)) (lengths-total c.self.inside.snapshots.entries)
          ∙ (ap capped none ∙ ap (λ w. capped (total w.queues)) c.self.view_is)),
      refl,
    )

pub returns : goal.returns
returns c =
    let done = ap (λ l. capped (c.loop-snapshots.count + lengths l)) (sym c.in-None.ensures.steps.0)
    ∙ c.loop-snapshots.invariant.0 in
    let count : c.loop-snapshots.count + 0 ≡ c.loop-snapshots.count = omega arith in
    sym c.loop-snapshots.invariant.1 ∙ (ap capped (sym count) ∙ done)
