use Rattle.std.specs.Borrow.{Bor}
use Rattle.std.specs.Prelude.{option_map}
use Rattle.std.proofs.Common.{◌∙◌, ap}
use Rattle.lsp_notes.specs.Requests.{is_by, request_view}
use Rattle.lsp_notes.specs.declared.requests.Request as code
use Rattle.lsp_trail.proofs.History.{last_lent}
use Rattle.lsp_notes.proofs.requests.request_at.Goals as goal

pub returns : goal.returns
returns c =
    ap (option_map (λ (r : Bor code.Request). request_view r.now)) c.or.ensures
    ∙ last_lent request_view (is_by c.args.place) c.as_slices.result.0.now
    c.as_slices.result.1.now c.args.asked.now.items c.last_in-2.result c.last_in.result
    c.last_in-2.ensures c.last_in.ensures c.as_slices.ensures.items
