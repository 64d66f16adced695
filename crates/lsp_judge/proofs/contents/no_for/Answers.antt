use Rattle.std.proofs.Common.{sym, ◌∙◌}
use Rattle.lsp_verdict.specs.Placed.{Reads}
use Rattle.lsp_replay.proofs.Following.{whose_read}
use Rattle.lsp_judge.proofs.Told.{ruled}
use Rattle.lsp_judge.proofs.contents.no_for.Goals as goal

pub returns-in-Rule-clause-no : goal.returns-in-Rule-clause-no
returns-in-Rule-clause-no c = λ raw terms so_far counted whose refuses.
    let h = rw c.in-Rule.is at refuses in
    ruled terms so_far (Reads raw) h.0 c.in-Rule.rule c.args.who c.no_next.result h.1 h.2
    (whose_read raw h.0 h.1 ∙ sym whose) (c.no_next.ensures.no so_far counted)

pub returns-in-Rule-clause-memory : goal.returns-in-Rule-clause-memory
returns-in-Rule-clause-memory c = λ is. absurd (c.no_next.ensures.decided is)
