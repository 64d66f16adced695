use Rattle.std.proofs.Common.{sym, ap, ◌∙◌}
use Rattle.std.specs.Prelude.{option_and_then, slice_get}
use Rattle.lsp_types.proofs.MapLemmas.{get-in_order}
use Rattle.lsp_types.proofs.ordered.map.OrderedMap.at.Goals as goal

pub returns-in_err-place : goal.returns-in_err-place
returns-in_err-place g c =
    let es = c.self.inside.entries.entries in
    rw (← c.self.view_is, c.from_residual.ensures)
    (sym (get-in_order c.self.inside.order es c.args.index c.self.invariant.order.below
    ∙ ap (option_and_then (λ place. slice_get es place)) (sym c.in_err-place.ensures)))

pub returns : goal.returns
returns g c =
    let es = c.self.inside.entries.entries in
    rw (← c.self.view_is)
    (c.get_index.ensures.entry
    ∙ sym (get-in_order c.self.inside.order es c.args.index c.self.invariant.order.below
    ∙ ap (option_and_then (λ place. slice_get es place)) (sym c.in_ok-place.ensures)))
