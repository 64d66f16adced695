use Rattle.std.specs.List.{cons_option}
use Rattle.std.proofs.Common.{◌∙◌, Some, [], ap, subst, sym}
use Rattle.std.proofs.lemmas.Result.{on_ok_weaker}
use Rattle.lsp_notes.specs.Refusals.{most_requests}
use Rattle.lsp_notes.specs.Requests.{Holds, request_at, request_view}
use Rattle.lsp_trail.proofs.History.{none_held}
use Rattle.lsp_notes.proofs.Refusing.{asked_so, unasked}
use Rattle.lsp_notes.proofs.refusals.note_request.Goals as goal

-- it is none
pub returns-then-not-is_request : goal.returns-then-not-is_request
returns-then-not-is_request c = λ m same are.
    none_held request_view most_requests _ c.args.asked.now.items
    (unasked c.args.place m _ same (sym c.is_request.ensures ∙ c.if-not-is_request.true))

-- it is one
pub returns : goal.returns
returns c = on_ok_weaker c.push_request.result (λ held m same are.
    subst (λ o. Holds most_requests (cons_option o []) c.args.asked.now.items
    c.push_request.new.asked.items)
    (sym (asked_so c.args.place m _ _ same (sym c.is_request.ensures ∙ c.if-not-is_request.false) are
    ∙ ap (λ o. Some (request_at c.args.place o)) (sym c.uri_of.ensures))) held)
    c.push_request.ensures
