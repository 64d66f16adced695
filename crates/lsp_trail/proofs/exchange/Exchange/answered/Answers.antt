use Rattle.std.proofs.Common.{ap, ◌∙◌, option_map}
use Rattle.lsp_rpc.specs.Ident.{id_view}
use Rattle.lsp_trail.specs.Asking.{Reply, is_reply_to}
use Rattle.lsp_trail.specs.Conversations.{given_view}
use Rattle.lsp_trail.proofs.History.{last_held}
use Rattle.lsp_trail.proofs.exchange.Exchange.answered.Goals as goal

pub returns-in-Some : goal.returns-in-Some
returns-in-Some c =
    ap (option_map (λ (r : Reply). r.place))
    (ap (λ o. option_map given_view (option_map (λ r. r.now) o)) c.in-Some.ensures
    ∙ last_held given_view (is_reply_to (id_view c.args.id.now)) c.as_slices.result.0.now
    c.as_slices.result.1.now c.args.self.now.replies.items c.last_in-2.result c.last_in.result
    c.last_in-2.ensures c.last_in.ensures c.as_slices.ensures.items)

pub returns-in-None : goal.returns-in-None
returns-in-None c =
    ap (option_map (λ (r : Reply). r.place))
    (ap (λ o. option_map given_view (option_map (λ r. r.now) o)) c.in-None.ensures
    ∙ last_held given_view (is_reply_to (id_view c.args.id.now)) c.as_slices.result.0.now
    c.as_slices.result.1.now c.args.self.now.replies.items c.last_in-2.result c.last_in.result
    c.last_in-2.ensures c.last_in.ensures c.as_slices.ensures.items)
