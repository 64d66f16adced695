use Rattle.std.proofs.Common.{◌≡◌, Some, ℕ, ap, ◌∙◌, sym, List, Option, option_map, Bor}
use Rattle.std.specs.Str.{chars}
use Rattle.lsp_docs.specs.Calls.{saves}
use Rattle.lsp_docs.specs.Documents.{Version, versioned}
use Rattle.lsp_text.specs.SameText.{same_text}
use Rattle.lsp_docs.specs.State.{State, held_in, queue_of, rule_at}
use Rattle.lsp_docs.proofs.Stepping.{accepts-saved, breaks, save-differs, save-same}
use Rattle.lsp_docs.proofs.Stepping.{save-no-text, save-closed}
use Rattle.lsp_docs.proofs.docs.Docs.did_save.Goals as goal

abbrev said : Option (Bor (List ℕ)) → Option (List ℕ)
said o = option_map (λ (t : Bor (List ℕ)). chars t.now) o

pub returns-in_default-clause-accepts : goal.returns-in_default-clause-accepts
returns-in_default-clause-accepts g c =
    let s = c.args.self.now in
    let uri = c.args.uri.now in
    accepts-saved s uri (said c.args.text)
    (ap (λ t. rule_at s (saves uri t)) (ap said c.in_default.is)
    ∙ save-no-text s.terms (held_in uri s.documents) (queue_of uri s.kept)
    (queue_of uri s.waits.queues) uri)

pub returns-in_default-get-clause-accepts : goal.returns-in_default-get-clause-accepts
returns-in_default-get-clause-accepts g c =
    let s = c.args.self.now in
    let uri = c.args.uri.now in
    let none = sym c.get.ensures.held ∙ ap (option_map
    (λ d. versioned d.now.held.version (g.S.TextStore.content d.now.held.store)))
    c.in_default-get.is in
    accepts-saved s uri (said c.args.text)
    (save-closed s.terms (held_in uri s.documents) (queue_of uri s.kept)
    (queue_of uri s.waits.queues) uri (said c.args.text) none)

pub returns-then-has_text-clause-accepts : goal.returns-then-has_text-clause-accepts
returns-then-has_text-clause-accepts g c =
    let s = c.args.self.now in
    let uri = c.args.uri.now in
    let v = versioned c.in-Some-get.document.now.held.version
    (g.S.TextStore.content c.in-Some-get.document.now.held.store) in
    let there = sym c.get.ensures.held ∙ ap
    (option_map (λ d. versioned d.now.held.version (g.S.TextStore.content d.now.held.store)))
    c.in-Some-get.is in
    accepts-saved s uri (said c.args.text)
    (ap (λ t. rule_at s (saves uri t)) (ap said c.in-Some.is)
    ∙ save-same s.terms (held_in uri s.documents) (queue_of uri s.kept) (queue_of uri s.waits.queues)
    uri v (chars c.in-Some.text.now) there
    (ap (λ (x : State). same_text x.terms.line_ends v.text (chars c.in-Some.text.now))
    (sym c.self.view_is) ∙ (sym c.has_text.ensures ∙ c.if-has_text.true)))

pub returns-else-has_text-clause-refuses : goal.returns-else-has_text-clause-refuses
returns-else-has_text-clause-refuses g c =
    let s = c.args.self.now in
    let uri = c.args.uri.now in
    let v = versioned c.in-Some-get.document.now.held.version
    (g.S.TextStore.content c.in-Some-get.document.now.held.store) in
    let there = sym c.get.ensures.held ∙ ap
    (option_map (λ d. versioned d.now.held.version (g.S.TextStore.content d.now.held.store)))
    c.in-Some-get.is in
    breaks s (saves uri (said c.args.text)) _
    (ap (λ t. rule_at s (saves uri t)) (ap said c.in-Some.is)
    ∙ save-differs s.terms (held_in uri s.documents) (queue_of uri s.kept)
    (queue_of uri s.waits.queues) uri v (chars c.in-Some.text.now) there
    (ap (λ (x : State). same_text x.terms.line_ends v.text (chars c.in-Some.text.now))
    (sym c.self.view_is) ∙ (sym c.has_text.ensures ∙ c.if-has_text.false)))
