use Rattle.std.proofs.Common.{None}
use Rattle.lsp_rpc.specs.Ident.{id_view}
use Rattle.lsp_rpc.specs.contracts.message.IdPartialEq.TheImpl.{eq-value}
use Rattle.lsp_session.proofs.Ids.{eq_is_same_id}
use Rattle.lsp_uris.proofs.Putting.{updates_in}
use Rattle.lsp_uris.proofs.by_id.forget.Goals as goal

pub returns : goal.returns
returns g c =
    let id = c.args.id.now in
    updates_in (eq-value).it eq_is_same_id (id_view id) ((eq-value).it id) (eq_is_same_id id) None
    c.args.map.now.entries _ c.swap_remove.ensures.updates.0
