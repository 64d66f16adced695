use Rattle.std.proofs.Common.{option_map, ap, ◌∙◌}
use Rattle.lsp_rpc.specs.contracts.message.IdPartialEq.TheImpl.{eq-value}
use Rattle.lsp_session.specs.Entry.{entries_in, request_view}
use Rattle.lsp_session.proofs.Entries.{AllNamed-without, entry_of-kept, without-kept}
use Rattle.lsp_session.proofs.Ids.{eq_is_same_id}
use Rattle.lsp_session.proofs.pending.Pending.answer.Goals as goal

pub invariant_of-self : goal.invariant_of-self
invariant_of-self c = rw c.remove.ensures.left
    (AllNamed-without (eq-value).it eq_is_same_id c.args.id.now c.self.inside.requests
    c.self.invariant)

pub returns-clause-found : goal.returns-clause-found
returns-clause-found c =
    rw (← c.self.view_is) (ap (option_map request_view) c.remove.ensures.value
    ∙ entry_of-kept (eq-value).it eq_is_same_id c.args.id.now c.self.inside.requests
    c.self.invariant)

pub returns-clause-left : goal.returns-clause-left
returns-clause-left c =
    rw (← c.self.view_is) (ap entries_in c.remove.ensures.left
    ∙ without-kept (eq-value).it eq_is_same_id c.args.id.now c.self.inside.requests
    c.self.invariant c.remove.ensures.differ)
