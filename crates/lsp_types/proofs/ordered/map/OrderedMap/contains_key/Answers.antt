use Rattle.std.proofs.Common.{is_some, ap, ◌∙◌}
use Rattle.std.specs.Map.{lookup}
use Rattle.lsp_types.proofs.MapLemmas.{lookup-in_order}
use Rattle.lsp_types.proofs.ordered.map.OrderedMap.contains_key.Goals as goal

pub returns : goal.returns
returns g c =
    let eq = g.K.PartialEq.eq in
    let key = c.args.key.now in
    c.contains_key.ensures
    ∙ (ap is_some (lookup-in_order eq (eq key) (g.met.K.Eq.laws.congr key) c.self.inside.order
    c.self.inside.entries.entries c.self.invariant.order c.self.invariant.unique)
    ∙ ap (λ es. is_some (lookup (eq key) es)) c.self.view_is)
