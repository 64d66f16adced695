use Rattle.std.specs.List.{cons_option}
use Rattle.std.specs.Prelude.{option_map, string_bytes}
use Rattle.std.proofs.Common.{◌∙◌, Some, [], ap, subst, sym}
use Rattle.std.proofs.lemmas.Result.{on_ok_weaker}
use Rattle.lsp_notes.specs.EditRequests.{most_requests}
use Rattle.lsp_notes.specs.Requests.{Holds, request_at, request_view}
use Rattle.lsp_trail.proofs.History.{none_held}
use Rattle.lsp_notes.proofs.edit_requests.note_formatting.Goals as goal

-- it names none
pub returns-in_default : goal.returns-in_default
returns-in_default c =
    none_held request_view most_requests _ c.args.asked.now.items
    (ap (option_map (λ uri. request_at c.args.place (Some uri)))
    (sym c.in_ok-uri.ensures ∙ ap (option_map string_bytes) c.in_default.is))

pub returns : goal.returns
returns c = on_ok_weaker c.push_request.result (λ held.
    subst (λ o. Holds most_requests
    (cons_option (option_map (λ uri. request_at c.args.place (Some uri)) o) [])
    c.args.asked.now.items c.push_request.new.asked.items)
    (sym (ap (option_map string_bytes) c.in-Some.is) ∙ c.in_ok-uri.ensures) held)
    c.push_request.ensures
