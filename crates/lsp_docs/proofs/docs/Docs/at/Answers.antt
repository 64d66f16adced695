use Rattle.std.proofs.Common.{ap, map, ◌∙◌}
use Rattle.std.specs.Prelude.{slice_get}
use Rattle.lsp_docs.specs.Documents.{Held}
use Rattle.lsp_docs.proofs.docs.Docs.at.Goals as goal

pub returns : goal.returns
returns g c = λ calls h.
    let uri_of = λ (x : Held). x.uri in
    let index = c.args.index in
    c.at.ensures ∙ (ap (λ s. slice_get (map uri_of s.documents) index) c.self.view_is
    ∙ ap (λ l. slice_get (map uri_of l) index) h.documents)
