use Rattle.std.proofs.Common.{ap, ◌∙◌, false, option_map}
use Rattle.std.specs.Prelude.{unwrap_or}
use Rattle.lsp_trail.specs.Renames.{Move, is_of, move_view}
use Rattle.lsp_trail.proofs.History.{last_held}
use Rattle.lsp_trail.proofs.renames.is_gone.Goals as goal

pub returns-in-Some : goal.returns-in-Some
returns-in-Some c =
    ap (λ o. unwrap_or (option_map (λ (m : Move). m.is_gone) o) false)
    (ap (λ o. option_map move_view (option_map (λ r. r.now) o)) c.in-Some.ensures
    ∙ last_held move_view (is_of c.args.uri.now) c.as_slices.result.0.now c.as_slices.result.1.now
    c.args.moves.now.items c.last_in-2.result c.last_in.result c.last_in-2.ensures
    c.last_in.ensures c.as_slices.ensures.items)

pub returns-in-None : goal.returns-in-None
returns-in-None c =
    ap (λ o. unwrap_or (option_map (λ (m : Move). m.is_gone) o) false)
    (ap (λ o. option_map move_view (option_map (λ r. r.now) o)) c.in-None.ensures
    ∙ last_held move_view (is_of c.args.uri.now) c.as_slices.result.0.now c.as_slices.result.1.now
    c.args.moves.now.items c.last_in-2.result c.last_in.result c.last_in-2.ensures
    c.last_in.ensures c.as_slices.ensures.items)
