use Rattle.std.proofs.Common.{Some, ◌∙◌}
use Rattle.lsp_rpc.specs.Ident.{id_view, same_id}
use Rattle.lsp_rpc.specs.contracts.message.IdPartialEq.TheImpl.{eq-value}
use Rattle.lsp_session.proofs.Ids.{eq_is_same_id}
use Rattle.lsp_uris.specs.Held.{asked_in}
use Rattle.lsp_trail.proofs.SessionSteps.{or_if}
use Rattle.lsp_uris.proofs.Putting.{updates_in}
use Rattle.lsp_trail.proofs.asked.add_other.Goals as goal

pub returns : goal.returns
returns c =
    let id = c.args.asked.id in
    let old = c.args.others.now.entries in
    λ k. updates_in (eq-value).it eq_is_same_id (id_view id) ((eq-value).it id) (eq_is_same_id id)
    (Some c.args.asked.place) old _ c.in_ok-insert.ensures.updates.0 k
    ∙ or_if (same_id (id_view id) (id_view k)) c.args.asked.place (asked_in old (id_view k))
