use Rattle.std.proofs.Common.{ap, sym, ◌∙◌, w32}
use Rattle.std.proofs.lemmas.Int.{to_z-of_z}
use Rattle.std.specs.List.{find}
use Rattle.std.specs.Option.{option_map}
use mir.Val.{SFits}
use Rattle.lsp_docs.specs.Documents.{Version, is_at, versioned}
use Rattle.lsp_docs.specs.Rules.{text_in}
use Rattle.lsp_docs.proofs.Others.{find-map, map-twice}
use Rattle.lsp_docs.proofs.history.History.store_at.Goals as goal

pub returns-in-Some : goal.returns-in-Some
returns-in-Some g c =
    let fits : SFits w32 c.args.version = c.ranges.version in
    let told = simp to_z-of_z at c.in-Some.ensures in
    let items = c.self.inside.revisions.items in
    ap (option_map (λ r. g.S.TextStore.content r.store)) told
    ∙ (sym (ap (option_map (λ (v : Version). v.text))
    (find-map (is_at c.args.version) (λ r. versioned r.version (g.S.TextStore.content r.store)) items)
    ∙ map-twice (λ (v : Version). v.text) (λ r. versioned r.version (g.S.TextStore.content r.store))
    (find (λ r. is_at c.args.version (versioned r.version (g.S.TextStore.content r.store))) items))
    ∙ ap (text_in c.args.version) c.self.view_is)

pub returns-in-None : goal.returns-in-None
returns-in-None g c =
    let fits : SFits w32 c.args.version = c.ranges.version in
    let told = simp to_z-of_z at c.in-None.ensures in
    let items = c.self.inside.revisions.items in
    ap (option_map (λ r. g.S.TextStore.content r.store)) told
    ∙ (sym (ap (option_map (λ (v : Version). v.text))
    (find-map (is_at c.args.version) (λ r. versioned r.version (g.S.TextStore.content r.store)) items)
    ∙ map-twice (λ (v : Version). v.text) (λ r. versioned r.version (g.S.TextStore.content r.store))
    (find (λ r. is_at c.args.version (versioned r.version (g.S.TextStore.content r.store))) items))
    ∙ ap (text_in c.args.version) c.self.view_is)
