use Rattle.std.proofs.Common.{ap, ◌∙◌}
use Rattle.std.specs.String.{string_eq}
use Rattle.std.specs.Map.{lookup}
use Rattle.lsp_types.specs.Texts.{is_text}
use Rattle.lsp_types.proofs.MapLemmas.{lookup-in_order, text_test}
use Rattle.lsp_types.proofs.ordered.map.OrderedMap+String+V.get_str.Goals as goal

pub returns : goal.returns
returns g c =
    let eq = string_eq in
    let key = c.args.key.now in
    c.get.ensures.value
    ∙ (lookup-in_order eq (is_text key) (text_test key) c.self.inside.order
    c.self.inside.entries.entries c.self.invariant.order c.self.invariant.unique
    ∙ ap (lookup (is_text key)) c.self.view_is)
