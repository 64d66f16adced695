use Rattle.std.proofs.Common.{rules, ap, sym, subst, is_some, ◌∙◌}
use Rattle.std.proofs.lemmas.Fn.{filter_same}
use Rattle.lsp_types.specs.Places.{places_in, IsOrder}
use Rattle.lsp_types.proofs.OrderLemmas.{order-tied, places-full}
use Rattle.lsp_types.proofs.ordered.order.pack.Goals as goal

pub number-requires : goal.number-requires
number-requires c =
    let slots = c.args.slots.now.items in
    let same = ap places_in c.as_slice.ensures.value
    ∙ (ap places_in (filter_same _ is_some _ (λ x b f call. search rules) _ _
    c.retain.ensures.filtered) ∙ places-full slots) in
    subst (λ l. IsOrder l c.args.slot_of.now.len) (sym same)
    (order-tied slots c.args.slot_of.now.items c.args.slot_of.now.len c.requires
    (sym c.args.slot_of.now.ok.0))

pub returns-clause-places : goal.returns-clause-places
returns-clause-places c =
    ap places_in (filter_same _ is_some _ (λ x b f call. search rules) _ _
    c.retain.ensures.filtered) ∙ places-full c.args.slots.now.items
