use Rattle.std.proofs.Common.{sym, ap, ◌∙◌, filter, length, w32}
use Rattle.std.proofs.lemmas.Int.{to_z-of_z}
use mir.Val.{SFits}
use Rattle.lsp_docs.specs.Documents.{is_after, is_before}
use Rattle.lsp_docs.specs.State.{capped}
use Rattle.lsp_docs.specs.Stored.{queues_in}
use Rattle.lsp_docs.proofs.Queues.{queue_of-there, queue_of-absent, keep_in-there, keep_in-absent}
use Rattle.lsp_docs.proofs.waiting.drop_reached.Goals as goal

pub returns-in-Some-clause-left : goal.returns-in-Some-clause-left
returns-in-Some-clause-left c =
    let fits : SFits w32 c.args.version = c.ranges.version in
    let left = simp to_z-of_z at c.reach.ensures.left in
    ap queues_in (c.get_mut.follows.holds c.reach.new.self).0
    ∙ keep_in-there (λ x. x) c.args.uri.now (is_after c.args.version) c.in-Some.waiting.now
    c.reach.new.self left _ (sym c.in-Some.ensures.value)

pub returns-in-Some-clause-missed : goal.returns-in-Some-clause-missed
returns-in-Some-clause-missed c =
    let fits : SFits w32 c.args.version = c.ranges.version in
    let count = simp to_z-of_z at c.reach.ensures.missed in
    let there = queue_of-there (λ x. x) c.args.uri.now _ c.in-Some.waiting.now
    (sym c.in-Some.ensures.value) in
    count ∙ sym (ap (λ l. capped (length (filter (is_before c.args.version) l))) there)

pub returns-in-None-clause-left : goal.returns-in-None-clause-left
returns-in-None-clause-left c =
    ap (λ m. queues_in m.entries) c.get_mut.follows.holds-at-none
    ∙ keep_in-absent (λ x. x) c.args.uri.now (is_after c.args.version) _
    (sym c.in-None.ensures.value)

pub returns-in-None-clause-missed : goal.returns-in-None-clause-missed
returns-in-None-clause-missed c =
    sym (ap (λ l. capped (length (filter (is_before c.args.version) l)))
    (queue_of-absent (λ x. x) c.args.uri.now _ (sym c.in-None.ensures.value)))
