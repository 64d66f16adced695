use Rattle.std.proofs.Common.{sym, ap, ◌∙◌, w32}
use Rattle.std.proofs.lemmas.Int.{to_z-of_z}
use Rattle.std.specs.List.{list_any}
use mir.Val.{SFits}
use Rattle.lsp_docs.specs.Documents.{versioned, is_at}
use Rattle.lsp_docs.proofs.Words.{any-map}
use Rattle.lsp_docs.proofs.history.History.has.Goals as goal

pub returns : goal.returns
returns g c =
    let fits : SFits w32 c.args.version = c.ranges.version in
    let tested = simp to_z-of_z at c.any_at.ensures in
    tested
    ∙ (sym (any-map (is_at c.args.version) (λ r.
    versioned r.version (g.S.TextStore.content r.store)) c.self.inside.revisions.items)
    ∙ ap (list_any (is_at c.args.version)) c.self.view_is)
