use Rattle.std.specs.Prelude.{option_and_then}
use Rattle.std.proofs.Common.{◌∙◌, ap}
use Rattle.lsp_notes.specs.Refusals.{last_requests, refused_request}
use Rattle.lsp_notes.specs.Requests.{request_at_place}
use Rattle.lsp_notes.proofs.refusals.refused_request.Goals as goal

-- it refuses nothing
pub returns-in_err-id : goal.returns-in_err-id
returns-in_err-id c = rw c.from_residual.ensures (λ terms before trail are.
    ap (option_and_then (refused_request terms before)) c.in_err-id.ensures)

-- no such request is open
pub returns-in_err-place : goal.returns-in_err-place
returns-in_err-place c = rw c.from_residual-in_err-place.ensures (λ terms before trail are.
    ap (option_and_then (λ p. request_at_place p (last_requests terms before)))
    (c.in_err-place.ensures terms before trail.said)
    ∙ ap (option_and_then (refused_request terms before)) c.in_ok-id.ensures)

-- it may be
pub returns : goal.returns
returns c = λ terms before trail are.
    c.request_at.ensures
    ∙ ap (request_at_place c.in_ok-place.place) are
    ∙ ap (option_and_then (λ p. request_at_place p (last_requests terms before)))
    (c.in_ok-place.ensures terms before trail.said)
    ∙ ap (option_and_then (refused_request terms before)) c.in_ok-id.ensures
