use Rattle.std.proofs.Common.{sym, ap, ◌∙◌, length}
use Rattle.lsp_docs.specs.State.{capped}
use Rattle.lsp_docs.proofs.Queues.{queue_of-there, queue_of-absent, released, released-none}
use Rattle.lsp_docs.proofs.waiting.drop_all.Goals as goal

pub returns-in-Some-clause-left : goal.returns-in-Some-clause-left
returns-in-Some-clause-left c =
    let updates = c.swap_remove.ensures.updates in
    released (λ d. d) c.args.uri.now c.args.snapshots.now.entries c.swap_remove.new.self.entries
    c.in-Some.waiting (sym c.swap_remove.ensures.value ∙ c.in-Some.is)
    c.swap_remove.ensures.entries updates.1 updates.3

pub returns-in-Some-clause-missed : goal.returns-in-Some-clause-missed
returns-in-Some-clause-missed c =
    let there = queue_of-there (λ x. x) c.args.uri.now c.args.snapshots.now.entries
    c.in-Some.waiting (sym c.swap_remove.ensures.value ∙ c.in-Some.is) in
    c.len.ensures ∙ sym (ap (λ l. capped (length l)) there)

pub returns-in-None-clause-left : goal.returns-in-None-clause-left
returns-in-None-clause-left c =
    released-none (λ d. d) c.args.uri.now c.args.snapshots.now.entries
    c.swap_remove.new.self.entries (sym c.swap_remove.ensures.value ∙ c.in-None.is)
    c.in-None.ensures.unchanged

pub returns-in-None-clause-missed : goal.returns-in-None-clause-missed
returns-in-None-clause-missed c =
    sym (ap (λ l. capped (length l))
    (queue_of-absent (λ x. x) c.args.uri.now c.args.snapshots.now.entries
    (sym c.swap_remove.ensures.value ∙ c.in-None.is)))
