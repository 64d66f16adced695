use Rattle.std.proofs.Common.{ap, ◌∙◌, option_map}
use Rattle.lsp_trail.specs.History.{OnDocument}
use Rattle.lsp_trail.specs.Openings.{is_on, on_view}
use Rattle.lsp_trail.proofs.History.{last_held}
use Rattle.lsp_trail.proofs.openings.last_on.Goals as goal

pub returns-in-Some : goal.returns-in-Some
returns-in-Some c =
    ap (option_map (λ (on : OnDocument). on.place))
    (ap (λ o. option_map on_view (option_map (λ r. r.now) o)) c.in-Some.ensures
    ∙ last_held on_view (is_on c.args.uri.now) c.as_slices.result.0.now c.as_slices.result.1.now
    c.args.held.now.items c.last_in-2.result c.last_in.result c.last_in-2.ensures
    c.last_in.ensures c.as_slices.ensures.items)

pub returns-in-None : goal.returns-in-None
returns-in-None c =
    ap (option_map (λ (on : OnDocument). on.place))
    (ap (λ o. option_map on_view (option_map (λ r. r.now) o)) c.in-None.ensures
    ∙ last_held on_view (is_on c.args.uri.now) c.as_slices.result.0.now c.as_slices.result.1.now
    c.args.held.now.items c.last_in-2.result c.last_in.result c.last_in-2.ensures
    c.last_in.ensures c.as_slices.ensures.items)
