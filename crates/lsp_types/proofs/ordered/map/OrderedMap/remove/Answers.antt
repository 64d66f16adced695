use Rattle.std.proofs.Common.{sym, ap, subst, ◌∙◌}
use Rattle.std.specs.List.{IsDistinct}
use Rattle.std.specs.Map.{keys_of, lookup, remove_entry}
use Rattle.lsp_types.specs.Places.{in_order, without_place}
use Rattle.lsp_types.proofs.MapLemmas.{distinct-in_order, lookup-in_order, remove-absent}
use Rattle.lsp_types.proofs.MapLemmas.{removed-in_order}
use Rattle.lsp_types.proofs.ordered.map.OrderedMap.remove.Goals as goal

-- ---- the key is not there

pub returns-in_err-place-clause-value : goal.returns-in_err-place-clause-value
returns-in_err-place-clause-value g c =
    let eq = g.K.PartialEq.eq in
    let key = c.args.key.now in
    let kept = lookup-in_order eq (eq key) (g.met.K.Eq.laws.congr key) c.self.inside.order
    c.self.inside.entries.entries c.self.invariant.order c.self.invariant.unique in
    c.from_residual.ensures ∙ (c.in_err-place.ensures.value
    ∙ (kept ∙ ap (lookup (eq key)) c.self.view_is))

pub returns-in_err-place-clause-left : goal.returns-in_err-place-clause-left
returns-in_err-place-clause-left g c =
    let eq = g.K.PartialEq.eq in
    let key = c.args.key.now in
    let es = c.self.inside.entries.entries in
    let order = c.self.inside.order in
    let kept = lookup-in_order eq (eq key) (g.met.K.Eq.laws.congr key) order es
    c.self.invariant.order c.self.invariant.unique in
    ap (in_order order) c.in_err-place.ensures.unchanged
    ∙ (sym (remove-absent eq (eq key) (g.met.K.Eq.laws.congr key) (in_order order es)
    (sym (c.in_err-place.ensures.value ∙ kept))) ∙ ap (remove_entry (eq key)) c.self.view_is)

pub returns-in_err-place-clause-differ : goal.returns-in_err-place-clause-differ
returns-in_err-place-clause-differ g c =
    let order = c.self.invariant.order in
    subst (λ es. IsDistinct g.K.PartialEq.eq (keys_of es)) c.self.view_is
    (distinct-in_order g.K.PartialEq.eq g.met.K.Eq.laws c.self.inside.order
    c.self.inside.entries.entries order.differ order.below c.self.invariant.unique)

-- ---- it is there

pub returns-clause-value : goal.returns-clause-value
returns-clause-value g c =
    let eq = g.K.PartialEq.eq in
    let key = c.args.key.now in
    let kept = lookup-in_order eq (eq key) (g.met.K.Eq.laws.congr key) c.self.inside.order
    c.self.inside.entries.entries c.self.invariant.order c.self.invariant.unique in
    c.in_ok-place.ensures.value ∙ (kept ∙ ap (lookup (eq key)) c.self.view_is)

pub returns-clause-left : goal.returns-clause-left
returns-clause-left g c =
    let eq = g.K.PartialEq.eq in
    let key = c.args.key.now in
    let es = c.self.inside.entries.entries in
    let order = c.self.inside.order in
    let place = c.in_ok-place.place in
    ap (λ o. in_order o c.swap_remove_full.new.self.entries) c.remove.ensures.places
    ∙ (ap (in_order (without_place place order)) c.swap_remove_full.ensures.entries
    ∙ (removed-in_order eq g.met.K.Eq.laws (eq key) (g.met.K.Eq.laws.congr key) order es
    c.self.invariant.order c.self.invariant.unique place c.in_ok-place.value
    (sym c.in_ok-place.ensures.index) (sym c.in_ok-place.ensures.value)
    ∙ ap (remove_entry (eq key)) c.self.view_is))

pub returns-clause-differ : goal.returns-clause-differ
returns-clause-differ g c =
    let order = c.self.invariant.order in
    subst (λ es. IsDistinct g.K.PartialEq.eq (keys_of es)) c.self.view_is
    (distinct-in_order g.K.PartialEq.eq g.met.K.Eq.laws c.self.inside.order
    c.self.inside.entries.entries order.differ order.below c.self.invariant.unique)
