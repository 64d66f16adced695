use Rattle.std.proofs.Common.{◌+◌, ◌++◌, ◌∷◌, [], length, length-append, ap, sym, ◌∙◌}
use Rattle.lsp_types.specs.Places.{places_in}
use Rattle.lsp_types.proofs.OrderLemmas.{order-tied, places-push, tied-push}
use Rattle.lsp_types.proofs.ordered.order.Order.push.Goals as goal

pub invariant_of-self-2 : goal.invariant_of-self-2
invariant_of-self-2 c =
    let slot = c.len-slot.ensures ∙ c.self.inside.slots.ok.0 in
    let place = c.len-place.ensures ∙ c.self.inside.slot_of.ok.0 in
    rw (
      c.push_reserved.ensures.items,
      c.reserve.ensures.items,
      c.in_ok-push.ensures.items,
      slot,
      place,
    ) (tied-push c.self.inside.slots.items c.self.inside.slot_of.items c.self.invariant)

pub returns-clause-ok : goal.returns-clause-ok
returns-clause-ok c =
    let place = c.len-place.ensures ∙ c.self.inside.slot_of.ok.0 in
    rw (c.push_reserved.ensures.items, c.reserve.ensures.items, place, ← c.self.view_is)
    (places-push c.self.inside.slots.items (length c.self.inside.slot_of.items)
    ∙ ap (λ n. places_in c.self.inside.slots.items ++ n ∷ []) (sym c.self.invariant.count))

pub returns-clause-order : goal.returns-clause-order
returns-clause-order c =
    let slot_of = c.self.inside.slot_of.items in
    order-tied _ _ _ (invariant_of-self-2 c)
    (ap length c.in_ok-push.ensures.items
    ∙ (length-append slot_of (c.len-slot.result ∷ [])
    ∙ ap (λ n. n + 1) (sym c.self.invariant.count ∙ ap length c.self.view_is)))
