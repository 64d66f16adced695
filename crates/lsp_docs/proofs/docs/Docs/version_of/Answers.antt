use Rattle.std.proofs.Common.{◌≡◌, ap, ◌∙◌, sym, option_map, rules, Some}
use Rattle.lsp_docs.specs.Documents.{Version, versioned, held}
use Rattle.lsp_docs.proofs.Stepping.{held-stands}
use Rattle.lsp_docs.proofs.docs.Docs.version_of.Goals as goal

pub returns-in-Some : goal.returns-in-Some
returns-in-Some g c = λ calls h.
    let e : Some c.in-Some.document.now.held.version
    ≡ option_map (λ (v : Version). v.number) (held c.args.self.now.terms c.args.uri.now calls) =
    ap (option_map (λ (v : Version). v.number))
    (sym (ap (option_map (λ d. versioned d.now.held.version
    (g.S.TextStore.content d.now.held.store))) c.in-Some.is)
    ∙ (c.get.ensures.held ∙ held-stands c.args.self.now calls c.args.uri.now h)) in
    search rules

pub returns-in-None : goal.returns-in-None
returns-in-None g c = λ calls h.
    ap (option_map (λ (v : Version). v.number))
    (sym (ap (option_map (λ d. versioned d.now.held.version
    (g.S.TextStore.content d.now.held.store))) c.in-None.is)
    ∙ (c.get.ensures.held ∙ held-stands c.args.self.now calls c.args.uri.now h))
