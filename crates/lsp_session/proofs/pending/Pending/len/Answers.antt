use Rattle.std.proofs.Common.{sym, ◌∙◌}
use Rattle.std.proofs.lemmas.List.{length-map}
use Rattle.lsp_rpc.specs.contracts.message.IdPartialEq.TheImpl.{eq-value}
use Rattle.lsp_session.specs.Entry.{request_view}
use Rattle.lsp_session.proofs.Entries.{differ-kept}
use Rattle.lsp_session.proofs.Ids.{eq_is_same_id}
use Rattle.lsp_session.proofs.pending.Pending.len.Goals as goal

pub returns-clause-count : goal.returns-clause-count
returns-clause-count c =
    rw (← c.self.view_is) (c.len.ensures.count
    ∙ sym (length-map c.self.inside.requests (λ e. request_view e.1)))

pub returns-clause-differ : goal.returns-clause-differ
returns-clause-differ c =
    rw (← c.self.view_is) (differ-kept (eq-value).it eq_is_same_id c.self.inside.requests
    c.self.invariant c.len.ensures.differ)
