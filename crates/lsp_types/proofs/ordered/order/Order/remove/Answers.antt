use Rattle.std.proofs.Common.{◌≡◌, ◌<◌, length, Some, None, sym, ap, subst, arith, ◌∙◌}
use Rattle.std.specs.Prelude.{IfSome, slice_get, slice_set}
use Rattle.std.specs.List.{swap_remove}
use Rattle.std.proofs.lemmas.Option.{slice_get_read, slice_get_within}
use Rattle.lsp_types.specs.Places.{places_in, refilled, without_place}
use Rattle.lsp_types.proofs.OrderLemmas.{length-swapped, order-tied, places-removed, refill-within}
use Rattle.lsp_types.proofs.OrderLemmas.{tied-removed}
use Rattle.lsp_types.proofs.ordered.order.Order.remove.Goals.{After-swap_remove-slot}
use Rattle.lsp_types.proofs.ordered.order.Order.remove.Goals.{After-pack_sparse}
use Rattle.lsp_types.proofs.ordered.order.Order.remove.Goals as goal

module _ (c : After-swap_remove-slot) where
  found : slice_get c.self.inside.slot_of.items c.args.place ≡ Some c.swap_remove-slot.result
  found =
      slice_get_read c.self.inside.slot_of.items c.self.inside.slot_of.len c.args.place
      c.swap_remove-slot.result c.self.inside.slot_of.ok.0
      (omega (
        arith,
        c.requires,
        ap length c.self.view_is,
        c.self.invariant.count,
        c.self.inside.slot_of.ok.0,
      )) c.swap_remove-slot.ensures.value

  within : c.swap_remove-slot.result < length c.self.inside.slots.items
  within = slice_get_within c.self.inside.slots.items c.swap_remove-slot.result (Some c.args.place)
      (c.self.invariant.there c.args.place c.swap_remove-slot.result found)

pub index_mut-requires : goal.index_mut-requires
index_mut-requires c = omega (
  arith,
  within (goal.at.index_mut-requires c).After-swap_remove-slot,
  c.self.inside.slots.ok.0,
)

pub refill-requires : goal.refill-requires
refill-requires c =
    let left = refill-within c.self.inside.slots.items c.self.inside.slot_of.items c.args.place
    c.swap_remove-slot.result c.swap_remove-slot.result c.self.invariant
    (found (goal.at.refill-requires c).After-swap_remove-slot) in
    let slot = c.slot_at.ensures ∙ ap (λ l. slice_get l c.args.place)
    (c.deref.ensures.value ∙ c.swap_remove-slot.ensures.items) in
    subst (λ n. IfSome c.slot_at.result (λ slot. slot < n)) (sym c.self.inside.slots.ok.0)
    (subst (λ o. IfSome o (λ slot. slot < length c.self.inside.slots.items)) (sym slot) left)

pub pack_sparse-requires : goal.pack_sparse-requires
pack_sparse-requires c =
    let slot = c.slot_at.ensures ∙ ap (λ l. slice_get l c.args.place)
    (c.deref.ensures.value ∙ c.swap_remove-slot.ensures.items) in
    rw (c.refill.ensures, slot, c.swap_remove-slot.ensures.items)
    (tied-removed c.self.inside.slots.items c.self.inside.slot_of.items c.args.place
    c.swap_remove-slot.result c.swap_remove-slot.result c.self.invariant
    (found (goal.at.pack_sparse-requires c).After-swap_remove-slot))

module _ (c : After-pack_sparse) where
  is : places_in c.pack_sparse.new.slots.items
      ≡ places_in (refilled (slice_get (swap_remove c.self.inside.slot_of.items c.args.place
      c.swap_remove-slot.result) c.args.place) c.args.place
      (slice_set c.self.inside.slots.items c.swap_remove-slot.result None))
  is =
      let slot = c.slot_at.ensures ∙ ap (λ l. slice_get l c.args.place)
      (c.deref.ensures.value ∙ c.swap_remove-slot.ensures.items) in
      c.pack_sparse.ensures.places
      ∙ (ap places_in c.refill.ensures
      ∙ ap (λ o. places_in (refilled o c.args.place
      (slice_set c.self.inside.slots.items c.swap_remove-slot.result None))) slot)

pub returns-clause-places : goal.returns-clause-places
returns-clause-places c =
    let left = places-removed c.self.inside.slots.items c.self.inside.slot_of.items c.args.place
    c.swap_remove-slot.result c.swap_remove-slot.result c.self.invariant
    (found (goal.at.returns-clause-places c).After-swap_remove-slot) in
    is c ∙ (left ∙ ap (without_place c.args.place) c.self.view_is)

pub returns-clause-order : goal.returns-clause-order
returns-clause-order c =
    let slot_of = c.self.inside.slot_of.items in
    let tied = tied-removed c.self.inside.slots.items slot_of c.args.place c.swap_remove-slot.result
    c.swap_remove-slot.result c.self.invariant
    (found (goal.at.returns-clause-order c).After-swap_remove-slot) in
    let short = length-swapped slot_of c.args.place c.swap_remove-slot.result in
    order-tied _ _ _ c.pack_sparse.ensures.tied
    (omega (
      arith,
      c.pack_sparse.ensures.tied.count,
      ap length (is c),
      tied.count,
      short,
      c.self.invariant.count,
      ap length c.self.view_is,
    ))
