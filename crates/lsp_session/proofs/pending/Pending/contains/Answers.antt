use Rattle.std.proofs.Common.{◌∙◌}
use Rattle.lsp_rpc.specs.contracts.message.IdPartialEq.TheImpl.{eq-value}
use Rattle.lsp_session.proofs.Entries.{has_id-kept}
use Rattle.lsp_session.proofs.Ids.{eq_is_same_id}
use Rattle.lsp_session.proofs.pending.Pending.contains.Goals as goal

pub returns : goal.returns
returns c = rw (← c.self.view_is) (c.contains_key.ensures
    ∙ has_id-kept (eq-value).it eq_is_same_id c.args.id.now c.self.inside.requests c.self.invariant)
