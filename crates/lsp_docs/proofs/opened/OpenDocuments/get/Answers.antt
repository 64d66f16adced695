use Rattle.std.proofs.Common.{option_map, sym, ap, ◌∙◌}
use Rattle.lsp_docs.specs.Documents.{versioned}
use Rattle.std.specs.Prelude.{[], unwrap_or}
use Rattle.lsp_docs.specs.State.{held_in, queue_of}
use Rattle.lsp_docs.proofs.Entries.{copied-map, held_in-of}
use Rattle.lsp_docs.proofs.Queues.{queue_of-found}
use Rattle.lsp_docs.proofs.opened.OpenDocuments.get.Goals as goal

pub returns-clause-held : goal.returns-clause-held
returns-clause-held g c =
    copied-map (λ d. versioned d.held.version (g.S.TextStore.content d.held.store)) c.get_str.result
    ∙ (ap (option_map (λ d. versioned d.held.version (g.S.TextStore.content d.held.store)))
    c.get_str.ensures
    ∙ (sym (held_in-of (λ d. versioned d.held.version (g.S.TextStore.content d.held.store))
    c.args.uri.now c.self.inside.documents)
    ∙ ap (λ s. held_in c.args.uri.now s.held) c.self.view_is))

pub returns-clause-kept : goal.returns-clause-kept
returns-clause-kept g c =
    ap (λ o. unwrap_or o []) (copied-map (λ d. d.kept) c.get_str.result
    ∙ ap (option_map (λ d. d.kept)) c.get_str.ensures)
    ∙ (sym (queue_of-found (λ d. d.kept) c.args.uri.now c.self.inside.documents)
    ∙ ap (λ s. queue_of c.args.uri.now s.kept) c.self.view_is)
