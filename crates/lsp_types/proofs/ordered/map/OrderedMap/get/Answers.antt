use Rattle.std.proofs.Common.{ap, ◌∙◌}
use Rattle.std.specs.Map.{lookup}
use Rattle.lsp_types.proofs.MapLemmas.{lookup-in_order}
use Rattle.lsp_types.proofs.ordered.map.OrderedMap.get.Goals as goal

pub returns : goal.returns
returns g c =
    let eq = g.K.PartialEq.eq in
    let key = c.args.key.now in
    c.get.ensures.value
    ∙ (lookup-in_order eq (eq key) (g.met.K.Eq.laws.congr key) c.self.inside.order
    c.self.inside.entries.entries c.self.invariant.order c.self.invariant.unique
    ∙ ap (lookup (eq key)) c.self.view_is)
