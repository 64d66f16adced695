use borrow.Follows.Closed.{read_of}
use Rattle.std.proofs.Common.{ap, ◌∙◌}
use Rattle.std.specs.Option.{ghost_name_of}
use Rattle.lsp_types.specs.Places.{in_order}
use Rattle.lsp_types.proofs.MapLemmas.{distinct-in_order, lookup-in_order, set-in_order}
use Rattle.lsp_types.proofs.ordered.map.OrderedMap.get_mut.Goals as goal

pub returns : goal.returns
returns g c =
    let eq = g.K.PartialEq.eq in
    let laws = g.met.K.Eq.laws in
    let key = c.args.key.now in
    let es = c.self.inside.entries.entries in
    let places = c.self.inside.order in
    let order = c.self.invariant.order in
    let unique = c.self.invariant.unique in
    rw (← c.self.view_is) (
      λ t. read_of (ghost_name_of c.get_mut.result)
          (λ (w : g.row.V.Denot). (ap (in_order places) (c.get_mut.follows.holds w).0
          ∙ set-in_order eq laws (eq key) (laws.congr key) places es order unique w) t)
          ((ap (λ m. in_order places m.entries) c.get_mut.follows.holds-at-none) t),
      record {
        writes_back = tt;
        value = c.get_mut.ensures.value ∙ lookup-in_order eq (eq key) (laws.congr key) places es
            order unique;
        differ = distinct-in_order eq laws places es order.differ order.below unique;
      },
    )
