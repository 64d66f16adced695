use Rattle.std.proofs.Common.{Some, ap, ◌∙◌}
use Rattle.lsp_rpc.specs.Ident.{id_view, same_id}
use Rattle.lsp_rpc.specs.contracts.message.IdPartialEq.TheImpl.{eq-value}
use Rattle.lsp_session.proofs.Ids.{eq_is_same_id}
use Rattle.lsp_uris.proofs.Putting.{updates_in}
use Rattle.lsp_uris.proofs.by_id.put.Goals as goal

pub returns : goal.returns
returns g c =
    let key = c.in_ok-key.key in
    updates_in (eq-value).it eq_is_same_id (id_view c.args.id.now) ((eq-value).it key)
    (λ q. eq_is_same_id key q ∙ ap (λ x. same_id x (id_view q)) c.in_ok-key.ensures)
    (Some c.args.value) c.args.map.now.entries _ c.in_ok-insert.ensures.updates.0
