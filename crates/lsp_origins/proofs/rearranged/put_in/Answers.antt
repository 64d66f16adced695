use Rattle.std.specs.List.{prefix_len}
use Rattle.std.proofs.Common.{◌∙◌, ap}
use Rattle.lsp_origins.specs.Fits.{suspect_view, suspects_view}
use Rattle.lsp_origins.specs.Rearranged.{begins_behind}
use Rattle.lsp_origins.proofs.Rearranging.{put_in-view}
use Rattle.lsp_origins.proofs.rearranged.put_in.Goals as goal

pub returns : goal.returns
returns c =
    let parts = c.args.parts.now.items in
    let part = c.args.part in
    ap suspects_view c.in_ok-insert.ensures.items
    ∙ put_in-view parts part c.count_behind-at.result (c.count_behind-at.ensures.value
    ∙ ap (prefix_len (λ other. begins_behind (suspect_view other) (suspect_view part)))
    c.as_slice.ensures.value)
