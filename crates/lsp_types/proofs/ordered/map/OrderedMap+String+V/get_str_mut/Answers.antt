use borrow.Follows.Closed.{read_of}
use Rattle.std.proofs.Common.{ap, ◌∙◌}
use Rattle.std.specs.String.{string_eq, string_eq_equiv}
use Rattle.std.specs.Option.{ghost_name_of}
use Rattle.lsp_types.specs.Places.{in_order}
use Rattle.lsp_types.specs.Texts.{is_text}
use Rattle.lsp_types.proofs.MapLemmas.{distinct-in_order, lookup-in_order, set-in_order, text_test}
use Rattle.lsp_types.proofs.ordered.map.OrderedMap+String+V.get_str_mut.Goals as goal

pub returns : goal.returns
returns g c =
    let eq = string_eq in
    let laws = string_eq_equiv in
    let key = c.args.key.now in
    let es = c.self.inside.entries.entries in
    let places = c.self.inside.order in
    let order = c.self.invariant.order in
    let unique = c.self.invariant.unique in
    rw (← c.self.view_is) (
      λ t. read_of (ghost_name_of c.get_mut.result)
          (λ (w : g.row.V.Denot). (ap (in_order places) (c.get_mut.follows.holds w).0
          ∙ set-in_order eq laws (is_text key) (text_test key) places es order unique w) t)
          ((ap (λ m. in_order places m.entries) c.get_mut.follows.holds-at-none) t),
      (
        c.get_mut.ensures.value ∙ lookup-in_order eq (is_text key) (text_test key) places es order
            unique,
        distinct-in_order eq laws places es order.differ order.below unique,
      ),
    )
