use Rattle.std.proofs.Common.{◌++◌, ap, sym, ◌∙◌, map}
use Rattle.std.proofs.lemmas.List.{map-append}
use Rattle.lsp_docs.specs.Documents.{Version, versioned}
use Rattle.lsp_docs.proofs.Others.{map-seen}
use Rattle.lsp_docs.proofs.history.History.numbers.Goals as goal

pub returns : goal.returns
returns g c =
    let first = c.as_slices.result.0.now in
    let second = c.as_slices.result.1.now in
    c.in_ok-add_numbers-2.ensures
    ∙ (ap (λ l. l ++ map (λ r. r.version) second) c.in_ok-add_numbers.ensures
    ∙ (ap (λ l. (l ++ map (λ r. r.version) first) ++ map (λ r. r.version) second)
    c.new-numbers.ensures.items
    ∙ (sym (map-append (λ r. r.version) first second)
    ∙ (ap (map (λ r. r.version)) c.as_slices.ensures.items
    ∙ (sym (map-seen (λ (v : Version). v.number)
    (λ r. versioned r.version (g.S.TextStore.content r.store)) c.self.inside.revisions.items)
    ∙ ap (map (λ (v : Version). v.number)) c.self.view_is)))))
