use Rattle.std.proofs.Common.{◌≡◌, length, ap, arith, ◌∙◌}
use Rattle.std.specs.Prelude.{slice_get, option_and_then}
use Rattle.lsp_types.specs.Places.{places_in}
use Rattle.lsp_types.proofs.OrderLemmas.{place-full}
use Rattle.lsp_types.proofs.ordered.order.Order.at.Goals as goal

pub returns-then-len : goal.returns-then-len
returns-then-len c =
    let slots = c.self.inside.slots.items in
    let full : length (places_in slots) ≡ length slots =
    c.self.invariant.count ∙ omega (
      arith,
      c.if-len.true,
      c.len.ensures,
      c.len-2.ensures,
      c.self.inside.slots.ok.0,
      c.self.inside.slot_of.ok.0,
    ) in
    c.place_in.ensures
    ∙ (ap (λ s. option_and_then (λ place. place) (slice_get s c.args.index))
    c.as_slice.ensures.value
    ∙ (place-full slots c.args.index full ∙ ap (λ l. slice_get l c.args.index) c.self.view_is))
