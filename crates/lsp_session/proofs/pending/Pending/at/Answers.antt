use Rattle.std.proofs.Common.{option_map, sym, ap, ◌∙◌}
use Rattle.std.proofs.lemmas.Option.{slice_get-map}
use Rattle.lsp_session.specs.Entry.{request_view}
use Rattle.lsp_session.proofs.pending.Pending.at.Goals as goal

pub returns-in_err-request : goal.returns-in_err-request
returns-in_err-request c =
    rw (← c.self.view_is, c.from_residual.ensures)
    (ap (option_map (λ e. request_view e.1)) c.in_err-request.ensures
    ∙ sym (slice_get-map (λ e. request_view e.1) c.self.inside.requests c.args.index))

pub returns : goal.returns
returns c =
    rw (← c.self.view_is)
    (ap (option_map (λ e. request_view e.1)) c.in_ok-request.ensures
    ∙ sym (slice_get-map (λ e. request_view e.1) c.self.inside.requests c.args.index))
