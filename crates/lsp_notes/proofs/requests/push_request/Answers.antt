use Rattle.std.proofs.lemmas.Result.{on_ok_weaker}
use Rattle.lsp_notes.specs.Requests.{request_view}
use Rattle.lsp_trail.proofs.History.{one_held}
use Rattle.lsp_notes.proofs.requests.push_request.Goals as goal

pub returns : goal.returns
returns c = on_ok_weaker c.push_within.result (λ pushed.
    one_held request_view c.args.most _ c.args.asked.now.items c.push_within.new.held.items
    c.requires pushed) c.push_within.ensures
