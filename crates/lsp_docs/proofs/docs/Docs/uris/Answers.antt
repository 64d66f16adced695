use Rattle.std.proofs.Common.{ap, map, ◌∙◌}
use Rattle.lsp_docs.specs.Documents.{Held}
use Rattle.lsp_docs.proofs.docs.Docs.uris.Goals as goal

pub returns : goal.returns
returns g c = λ calls h.
    let uri_of = λ (x : Held). x.uri in
    c.uris.ensures
    ∙ (ap (λ s. map uri_of s.documents) c.self.view_is ∙ ap (map uri_of) h.documents)
