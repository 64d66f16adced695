use Rattle.std.proofs.Common.{◌≡◌, length, length-set, Some, None, sym, ap, subst, ◌∙◌, arith}
use Rattle.std.proofs.lemmas.Option.{slice_get-get_or}
use Rattle.lsp_types.specs.Places.{IsOrder, places_in}
use Rattle.lsp_types.proofs.OrderLemmas.{number-all, number-skip, number-step, one_below}
use Rattle.lsp_types.proofs.ordered.order.number.Goals as goal
use Rattle.lsp_types.proofs.ordered.order.number.Goals.{in-Some, in_default}

pub index_mut-requires : goal.index_mut-requires
index_mut-requires c =
    let slots = c.args.slots.now in
    let at = slice_get-get_or slots c.loop-slot.slot None c.loop-slot-test.true
    ∙ ap (λ s. Some s) c.in-Some.is in
    omega (
      arith,
      one_below c.args.slot_of.now.len slots c.loop-slot.slot c.in-Some.place
          c.requires.below at,
      c.loop-slot.invariant.0,
      c.loop-slot.slot_of.ok.0,
      c.args.slot_of.now.ok.0,
    )

pub loop-slot-preserved : goal.loop-slot-preserved
loop-slot-preserved c =
    let slots = c.args.slots.now in
    let slot = slice_get-get_or slots c.loop-slot.slot None c.loop-slot-test.true in
    elim c.match-place.branch [
      | in-Some w ↦
          let at = slot ∙ ap (λ s. Some s) w.in-Some.is in
          let below = one_below c.args.slot_of.now.len slots c.loop-slot.slot w.in-Some.place
          c.requires.below at in
          rw w.slot_of-is (
            length-set c.loop-slot.slot_of.items w.in-Some.place c.loop-slot.slot
                ∙ c.loop-slot.invariant.0,
            number-step slots c.loop-slot.slot_of.items c.loop-slot.slot w.in-Some.place
                c.requires.differ at (omega (
                  arith,
                  below,
                  c.loop-slot.invariant.0,
                  c.args.slot_of.now.ok.0,
                )) c.loop-slot.invariant.1,
          )
      | in_default w ↦
          rw w.slot_of-is (
            c.loop-slot.invariant.0,
            number-skip slots c.loop-slot.slot_of.items c.loop-slot.slot
                (slot ∙ ap (λ s. Some s) w.in_default.is) c.loop-slot.invariant.1,
          )
    ]

pub returns : goal.returns
returns c =
    let slots = c.args.slots.now in
    let same : c.args.slot_of.now.len ≡ length c.loop-slot.slot_of.items =
    c.args.slot_of.now.ok.0 ∙ sym c.loop-slot.invariant.0 in
    number-all slots c.loop-slot.slot_of.items (subst (IsOrder (places_in slots)) same c.requires)
    (λ t p within. c.loop-slot.invariant.1 t p (omega (arith, within, c.loop-slot-test.false)))
