use Rattle.std.proofs.Common.{◌++◌, ◌∙◌, ap}
use Rattle.lsp_origins.specs.Fits.{suspects_view}
use Rattle.lsp_origins.specs.Rearranged.{instead}
use Rattle.lsp_origins.proofs.Rearranging.{rearranged_so}
use Rattle.lsp_origins.proofs.rearranged.rearranged.Goals as goal

pub returns : goal.returns
returns c =
    let way = c.args.way in
    let all = c.args.suspects.now in
    let front = c.split_at.result.0.now in
    let rest = c.split_at.result.1.now in
    let part = c.split_at-2.result.0.now in
    let after = c.split_at-2.result.1.now in
    ap suspects_view c.in_ok-extend_from_slice.ensures.items
    ∙ rearranged_so way all front rest part after c.push_instead.new.others.items c.args.at
    c.width_within.result c.split_at.ensures.front c.split_at.ensures.back
    c.split_at-2.ensures.front c.split_at-2.ensures.back c.width_within.ensures.is
    (c.in_ok-push_instead.ensures
    ∙ ap (λ l. suspects_view l ++ instead way (suspects_view part)) c.in_ok-others.ensures.items)
