use Rattle.std.proofs.Common.{◌+◌, sym, ap, ◌∙◌}
use Rattle.std.specs.Prelude.{length}
use Rattle.lsp_docs.specs.Snapshots.{waiting, missed}
use Rattle.lsp_docs.specs.State.{capped, total}
use Rattle.lsp_docs.proofs.Words.{capped-add_capped}
use Rattle.lsp_docs.proofs.Unmatched.{unmatched-parts}
use Rattle.lsp_docs.proofs.docs.Docs.unmatched.Goals as goal

pub returns : goal.returns
returns g c = λ calls h.
    let terms = c.args.self.now.terms in
    c.unmatched.ensures
    ∙ (ap (λ s. capped (capped (total s.waits.queues) + s.waits.missed)) c.self.view_is
    ∙ (ap (λ n. capped (capped n + c.args.self.now.waits.missed)) h.waits.count
    ∙ (ap (λ n. capped (capped (length (waiting terms calls)) + n)) h.waits.missed
    ∙ (capped-add_capped (length (waiting terms calls)) (missed terms calls)
    ∙ ap capped (sym (unmatched-parts terms calls h.accepted))))))
