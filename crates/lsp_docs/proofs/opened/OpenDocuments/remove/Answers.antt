use Rattle.std.proofs.Common.{[], is_some, sym, ap, ◌∙◌}
use Rattle.std.specs.Prelude.{if◌then◌else◌}
use Rattle.std.specs.Map.{lookup}
use Rattle.std.specs.Str.{bytes_eq}
use Rattle.lsp_types.specs.Texts.{is_text}
use Rattle.lsp_docs.specs.Documents.{versioned}
use Rattle.lsp_docs.specs.Stored.{held_of, kept_of}
use Rattle.lsp_docs.specs.State.{held_in, queue_of, without}
use Rattle.lsp_docs.proofs.Entries.{absent-removed, held_in-of, held-without, is_some-mapped}
use Rattle.lsp_docs.proofs.Entries.{keeps-none}
use Rattle.lsp_docs.proofs.opened.OpenDocuments.remove.Goals as goal

pub returns-clause-found : goal.returns-clause-found
returns-clause-found g c =
    let documents = c.self.inside.documents in
    c.is_some.ensures
    ∙ (ap is_some c.remove_str.ensures.value
    ∙ (sym (is_some-mapped (λ d. versioned d.held.version (g.S.TextStore.content d.held.store))
    (lookup (is_text c.args.uri.now) documents))
    ∙ (ap is_some (sym (held_in-of (λ d. versioned d.held.version
    (g.S.TextStore.content d.held.store)) c.args.uri.now documents))
    ∙ ap (λ s. is_some (held_in c.args.uri.now s.held)) c.self.view_is)))

pub returns-clause-absent : goal.returns-clause-absent
returns-clause-absent g c = λ none.
    let gone = sym (c.is_some.ensures ∙ ap is_some c.remove_str.ensures.value) ∙ none in
    let same = c.remove_str.ensures.left ∙ absent-removed c.args.uri.now c.self.inside.documents
    gone in
    (λ i. record {
      held = held_of (λ d. versioned d.held.version (g.S.TextStore.content d.held.store)) (same i);
      kept = kept_of (λ d. d.kept) (same i);
    }) ∙ c.self.view_is

pub returns-clause-held : goal.returns-clause-held
returns-clause-held g c =
    ap (held_of (λ d. versioned d.held.version (g.S.TextStore.content d.held.store)))
    c.remove_str.ensures.left
    ∙ (held-without (λ d. versioned d.held.version (g.S.TextStore.content d.held.store))
    c.args.uri.now c.self.inside.documents ∙ ap (λ s. without c.args.uri.now s.held) c.self.view_is)

pub returns-clause-kept : goal.returns-clause-kept
returns-clause-kept g c = λ u.
    ap (λ l. queue_of u (kept_of (λ d. d.kept) l)) c.remove_str.ensures.left
    ∙ (keeps-none (λ d. d.kept) c.args.uri.now c.self.inside.documents c.remove_str.ensures.differ u
    ∙ ap (λ s. if bytes_eq c.args.uri.now u then [] else queue_of u s.kept) c.self.view_is)
