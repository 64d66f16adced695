use Rattle.std.specs.Prelude.{[], unwrap_or}
use Rattle.std.proofs.Common.{Some, None, ap, sym, ◌∙◌, w32, option_map}
use Rattle.std.proofs.lemmas.Int.{to_z-of_z}
use mir.Val.{SFits}
use Rattle.lsp_docs.specs.Documents.{versioned}
use Rattle.lsp_docs.specs.Snapshots.{kept}
use Rattle.lsp_docs.specs.Rules.{text_at}
use Rattle.lsp_docs.proofs.Stepping.{held-stands}
use Rattle.lsp_docs.proofs.docs.Docs.store_at.Goals as goal

pub returns-in-Some : goal.returns-in-Some
returns-in-Some g c = λ calls h.
    let fits : SFits w32 c.args.version = c.ranges.version in
    let told = simp to_z-of_z at c.store_at.ensures in
    let holds = sym (ap (option_map (λ d. versioned d.now.held.version
    (g.S.TextStore.content d.now.held.store))) c.in-Some.is)
    ∙ (c.get.ensures.held ∙ held-stands c.args.self.now calls c.args.uri.now h) in
    let keeps = sym (ap (λ o. unwrap_or (option_map (λ d. d.now.kept) o) []) c.in-Some.is)
    ∙ (c.get.ensures.kept ∙ h.kept c.args.uri.now) in
    let v = versioned c.in-Some.document.now.held.version
    (g.S.TextStore.content c.in-Some.document.now.held.store) in
    told
    ∙ (ap (λ ks. text_at c.args.version ks (Some v)) keeps
    ∙ ap (λ o. text_at c.args.version (kept c.args.self.now.terms c.args.uri.now calls) o) holds)

pub returns-in-None : goal.returns-in-None
returns-in-None g c = λ calls h.
    let holds = sym (ap (option_map (λ d. versioned d.now.held.version
    (g.S.TextStore.content d.now.held.store))) c.in-None.is)
    ∙ (c.get.ensures.held ∙ held-stands c.args.self.now calls c.args.uri.now h) in
    let keeps = sym (ap (λ o. unwrap_or (option_map (λ d. d.now.kept) o) []) c.in-None.is)
    ∙ (c.get.ensures.kept ∙ h.kept c.args.uri.now) in
    ap (λ ks. text_at c.args.version ks None) keeps
    ∙ ap (λ o. text_at c.args.version (kept c.args.self.now.terms c.args.uri.now calls) o) holds
