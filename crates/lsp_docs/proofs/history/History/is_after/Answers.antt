use Rattle.std.proofs.Common.{sym, ap, ◌∙◌, w32}
use Rattle.std.proofs.lemmas.Int.{to_z-of_z}
use Rattle.std.specs.List.{list_all}
use mir.Val.{SFits}
use Rattle.lsp_docs.specs.Documents.{versioned, is_after}
use Rattle.std.proofs.lemmas.List.Folds.{list_all-map}
use Rattle.lsp_docs.proofs.history.History.is_after.Goals as goal

pub returns : goal.returns
returns g c =
    let fits : SFits w32 c.args.version = c.ranges.version in
    let tested = simp to_z-of_z at c.all_after.ensures in
    tested
    ∙ (sym (list_all-map (is_after c.args.version)
    (λ r. versioned r.version (g.S.TextStore.content r.store)) c.self.inside.revisions.items)
    ∙ ap (list_all (is_after c.args.version)) c.self.view_is)
