use Rattle.std.proofs.Common.{◌≡◌, None, refl, ap, sym, ◌∙◌}
use Rattle.std.specs.List.{splice}
use Rattle.std.proofs.lemmas.List.{map-id}
use Rattle.std.proofs.lemmas.Iterator.Consumers.{YieldsList-end}
use Rattle.std.proofs.lemmas.Iterator.Adapters.{YieldsList-from_vec}
use Rattle.lsp_lined.proofs.part.put.Goals as goal

pub returns-clause-ok : goal.returns-clause-ok
returns-clause-ok g c =
    let h = c.in_ok-splice.ensures.items in
    let road = YieldsList-from_vec c.args.fresh.items h.2.0 (h.2.1 ∙ c.args.fresh.ok.0) in
    let same : h.1 ≡ c.args.fresh.items =
    sym (map-id h.1)
    ∙ (YieldsList-end road h.1 h.3.1.0 h.3.1.1 None h.3.0 refl h.3.1.2).0 in
    h.4 ∙ ap (λ xs. splice c.args.parts.now.items c.args.first c.args.end xs) same
