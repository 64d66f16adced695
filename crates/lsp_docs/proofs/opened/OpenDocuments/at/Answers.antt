use Rattle.std.proofs.Common.{Some, string_bytes, option_map, sym, ap, ◌∙◌}
use Rattle.std.specs.Prelude.{slice_get}
use Rattle.std.proofs.lemmas.Option.{slice_get-map}
use Rattle.lsp_docs.specs.Documents.{versioned}
use Rattle.lsp_docs.proofs.Entries.{uris-held}
use Rattle.lsp_docs.proofs.opened.OpenDocuments.at.Goals as goal

pub returns-in_err-uri : goal.returns-in_err-uri
returns-in_err-uri g c =
    let documents = c.self.inside.documents in
    rw (← c.self.view_is, c.from_residual.ensures)
    (sym (ap (λ l. slice_get l c.args.index)
    (uris-held (λ d. versioned d.held.version (g.S.TextStore.content d.held.store)) documents)
    ∙ (slice_get-map (λ e. string_bytes e.0) documents c.args.index
    ∙ ap (option_map (λ e. string_bytes e.0)) (sym c.in_err-uri.ensures))))

pub returns : goal.returns
returns g c =
    let documents = c.self.inside.documents in
    rw (← c.self.view_is)
    (ap Some c.as_str.ensures.value
    ∙ sym (ap (λ l. slice_get l c.args.index)
    (uris-held (λ d. versioned d.held.version (g.S.TextStore.content d.held.store)) documents)
    ∙ (slice_get-map (λ e. string_bytes e.0) documents c.args.index
    ∙ ap (option_map (λ e. string_bytes e.0)) (sym c.in_ok-uri.ensures))))
