use Rattle.std.proofs.Common.{string_bytes, map, sym, ap, ◌∙◌}
use Rattle.lsp_docs.specs.Documents.{Held, versioned}
use Rattle.lsp_docs.proofs.Entries.{uris-held}
use Rattle.lsp_docs.proofs.opened.OpenDocuments.uris.Goals as goal

pub returns : goal.returns
returns g c =
    let documents = c.self.inside.documents in
    let uri_of = λ (x : Held). x.uri in
    ap (map (λ e. string_bytes e.0)) c.walk.ensures
    ∙ (sym (uris-held (λ d. versioned d.held.version (g.S.TextStore.content d.held.store)) documents)
    ∙ ap (λ o. map uri_of o.held) c.self.view_is)
