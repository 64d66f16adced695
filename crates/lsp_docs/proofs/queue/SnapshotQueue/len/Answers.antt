use Rattle.std.proofs.Common.{◌≡◌, refl, sym, ap, ◌∙◌, arith, ◌+◌, length}
use Rattle.lsp_docs.specs.State.{capped}
use Rattle.lsp_docs.specs.Stored.{versions_in}
use Rattle.lsp_docs.proofs.Due.{sizes, sizes-all}
use Rattle.lsp_docs.proofs.queue.SnapshotQueue.len.Goals as goal

pub loop-texts-init : goal.loop-texts-init
loop-texts-init c =
    let es = c.self.inside.texts.entries in
    let all = c.into_iter-texts-iterator.ensures.into_iter_gives
    ∙ c.values-texts-items.ensures.rest in
    let none : 0 + length (versions_in es) ≡ length (versions_in es) = omega arith in (
      ap (λ l. capped (0 + sizes l)) all
          ∙ (ap (λ n. capped (0 + n)) (sizes-all es)
          ∙ (ap capped none ∙ ap (λ l. capped (length l)) c.self.view_is)),
      refl,
    )

pub returns : goal.returns
returns c =
    let done = ap (λ l. capped (c.loop-texts.count + sizes l)) (sym c.in-None.ensures.steps.0)
    ∙ c.loop-texts.invariant.0 in
    let count : c.loop-texts.count + 0 ≡ c.loop-texts.count = omega arith in
    sym c.loop-texts.invariant.1 ∙ (ap capped (sym count) ∙ done)
