use Rattle.std.proofs.Common.{sym, ap, ◌∙◌}
use Rattle.lsp_rpc.specs.contracts.message.IdPartialEq.TheImpl.{eq-value}
use Rattle.lsp_session.specs.Entry.{entries_in, has_id}
use Rattle.lsp_session.proofs.Entries.{AllNamed-push, entries-push, has_id-kept, no-entry}
use Rattle.lsp_session.proofs.Ids.{eq_is_same_id}
use Rattle.lsp_session.proofs.pending.Pending.ask.Goals as goal

pub push-requires : goal.push-requires
push-requires c =
    let kept = c.self.inside.requests in
    let none = rw (← c.self.view_is) at (sym c.if-contains.ensures) in
    no-entry _ (has_id-kept (eq-value).it eq_is_same_id c.in_ok-key.key kept c.self.invariant
    ∙ (ap (λ x. has_id x (entries_in kept)) c.in_ok-key.ensures ∙ none))

pub invariant_of-self-2 : goal.invariant_of-self-2
invariant_of-self-2 c =
    let own = ap (λ e. e.id) c.in_ok-request.ensures ∙ sym c.in_ok-key.ensures in
    rw c.in_ok-push.ensures.ok
    (AllNamed-push c.self.inside.requests c.in_ok-key.key c.in_ok-request.request
    c.self.invariant own)

pub returns-clause-added : goal.returns-clause-added
returns-clause-added c =
    rw (← c.self.view_is, ← c.in_ok-request.ensures)
    (ap entries_in c.in_ok-push.ensures.ok
    ∙ entries-push c.self.inside.requests c.in_ok-key.key c.in_ok-request.request)
