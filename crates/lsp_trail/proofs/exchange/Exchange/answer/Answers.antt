use Rattle.std.specs.Prelude.{option_to_list, if◌then◌else◌}
use Rattle.std.proofs.Common.{Bool, None, Some, ◌<◌, ◌∷◌, [], ◌++◌, ap, sym, ◌∙◌, arith}
use Rattle.std.proofs.lemmas.Result.{on_ok_weaker}
use Rattle.lsp_rpc.specs.Ident.{id_view}
use Rattle.lsp_trail.specs.Asking.{most_replies, replied}
use Rattle.lsp_trail.specs.History.{last_ones}
use Rattle.lsp_trail.specs.Conversations.{given_view}
use Rattle.lsp_trail.proofs.History.{held-push}
use Rattle.lsp_trail.proofs.exchange.Exchange.answer.Goals as goal

pub returns-clause-replies : goal.returns-clause-replies
returns-clause-replies c =
    let some : 0 < most_replies = omega arith in
    let place = c.args.place in
    let own = id_view c.args.id.now in
    on_ok_weaker c.push_within.result (λ more given are.
    held-push given_view most_replies c.args.self.now.replies.items c.push_within.new.held.items _
    given some more are
    ∙ ap (λ id. last_ones most_replies (given ++ replied place id ∷ [])) c.in_ok-id.ensures
    ∙ ap (λ (b : Bool). last_ones most_replies (given
    ++ option_to_list (if b then Some (replied place own) else None)))
    (sym c.if-not-is_short.false ∙ c.is_short.ensures)) c.push_within.ensures
