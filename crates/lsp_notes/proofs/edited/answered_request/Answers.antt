use Rattle.std.specs.Prelude.{option_and_then}
use Rattle.std.proofs.Common.{◌∙◌, ap}
use Rattle.lsp_notes.specs.EditRequests.{last_requests}
use Rattle.lsp_notes.specs.Requests.{request_at_place}
use Rattle.lsp_notes.proofs.edited.answered_request.Goals as goal

-- no such request is open
pub returns-in_err-place : goal.returns-in_err-place
returns-in_err-place c = rw c.from_residual.ensures (λ terms before trail are.
    ap (option_and_then (λ p. request_at_place p (last_requests terms before)))
    (c.in_err-place.ensures terms before trail.said))

-- it may be
pub returns : goal.returns
returns c = λ terms before trail are.
    c.request_at.ensures
    ∙ ap (request_at_place c.in_ok-place.place) are
    ∙ ap (option_and_then (λ p. request_at_place p (last_requests terms before)))
    (c.in_ok-place.ensures terms before trail.said)
