use Rattle.std.proofs.Common.{length, sym, ap, subst, ◌∙◌}
use Rattle.std.specs.List.{IsDistinct}
use Rattle.std.specs.Map.{keys_of}
use Rattle.lsp_types.proofs.MapLemmas.{distinct-in_order, length-in_order}
use Rattle.lsp_types.proofs.ordered.map.OrderedMap.len.Goals as goal

pub returns-clause-count : goal.returns-clause-count
returns-clause-count g c =
    let order = c.self.invariant.order in
    c.len.ensures.len ∙ (sym order.count ∙ (sym
    (length-in_order c.self.inside.order c.self.inside.entries.entries order.below)
    ∙ ap length c.self.view_is))

pub returns-clause-differ : goal.returns-clause-differ
returns-clause-differ g c =
    let order = c.self.invariant.order in
    subst (λ es. IsDistinct g.K.PartialEq.eq (keys_of es)) c.self.view_is
    (distinct-in_order g.K.PartialEq.eq g.met.K.Eq.laws c.self.inside.order
    c.self.inside.entries.entries order.differ order.below c.self.invariant.unique)
