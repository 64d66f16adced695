use Rattle.std.proofs.Common.{◌≡◌, ◌+◌, ◌++◌, ◌∷◌, [], None, length, length-append, sym, ap, subst}
use Rattle.std.proofs.Common.{◌∙◌}
use Rattle.std.specs.Map.{lookup}
use Rattle.indexmap.specs.IndexMap.{insert_entry}
use Rattle.indexmap.proofs.CallerLemmas.{insert_entry-new}
use Rattle.lsp_types.specs.Places.{in_order, IsOrder}
use Rattle.lsp_types.proofs.MapLemmas.{in_order-push, lookup-in_order}
use Rattle.lsp_types.proofs.ordered.map.OrderedMap.push.Given.{Over}
use Rattle.lsp_types.proofs.ordered.map.OrderedMap.push.Goals.{In_ok-insert}
use Rattle.lsp_types.proofs.ordered.map.OrderedMap.push.Goals as goal

module _ (g : Over) (c : In_ok-insert g) where
  after : c.insert.new.self.entries
      ≡ c.self.inside.entries.entries ++ (c.args.key, c.args.value) ∷ []
  after =
      let eq = g.K.PartialEq.eq in
      let es = c.self.inside.entries.entries in
      let none : lookup (eq c.args.key) es ≡ None =
      lookup-in_order eq (eq c.args.key) (g.met.K.Eq.laws.congr c.args.key) c.self.inside.order es
      c.self.invariant.order c.self.invariant.unique
      ∙ (ap (lookup (eq c.args.key)) c.self.view_is ∙ c.requires) in
      c.in_ok-insert.ensures.entries
      ∙ (ap (λ l. insert_entry eq l c.args.key c.args.value) c.reserve.ensures.entries
      ∙ insert_entry-new eq c.self.inside.entries c.args.key c.args.value none)

pub invariant_of-self-2 : goal.invariant_of-self-2
invariant_of-self-2 g c =
    let es = c.self.inside.entries.entries in
    let now = (goal.at.invariant_of-self-2 g c).In_ok-insert in
    record {
      order = subst (IsOrder c.push.new.self)
          (ap (λ n. n + 1) c.self.invariant.order.count
          ∙ (sym (length-append es ((c.args.key, c.args.value) ∷ []))
          ∙ ap length (sym (after g now)))) c.in_ok-push.ensures.order;
      unique = c.in_ok-insert.ensures.unique;
    }

pub returns-clause-ok : goal.returns-clause-ok
returns-clause-ok g c =
    let es = c.self.inside.entries.entries in
    let order = c.self.inside.order in
    let now = (goal.at.returns-clause-ok g c).In_ok-insert in
    ap (in_order c.push.new.self) (after g now)
    ∙ (ap (λ o. in_order o (es ++ (c.args.key, c.args.value) ∷ []))
    (c.in_ok-push.ensures.ok ∙ ap (λ n. order ++ n ∷ []) c.self.invariant.order.count)
    ∙ (in_order-push order es (c.args.key, c.args.value) c.self.invariant.order.below
    ∙ ap (λ l. l ++ (c.args.key, c.args.value) ∷ []) c.self.view_is))
