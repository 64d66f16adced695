use Rattle.std.proofs.Common.{sym, ap, ◌∙◌, w32}
use Rattle.std.proofs.lemmas.Int.{to_z-of_z}
use Rattle.std.specs.Str.{chars}
use Rattle.std.specs.List.{list_any}
use mir.Val.{SFits}
use Rattle.lsp_docs.specs.Documents.{versioned}
use Rattle.lsp_docs.specs.Rules.{differs}
use Rattle.lsp_docs.proofs.Words.{any-map}
use Rattle.lsp_docs.proofs.history.History.any_differs.Goals as goal

pub returns : goal.returns
returns g c =
    let fits : SFits w32 c.args.version = c.ranges.version in
    let tested = simp to_z-of_z at c.any_differs.ensures in
    tested
    ∙ (sym (any-map (λ w. differs c.args.line_ends w
    (versioned c.args.version (chars c.args.text.now)))
    (λ r. versioned r.version (g.S.TextStore.content r.store)) c.self.inside.revisions.items)
    ∙ ap (list_any (λ w. differs c.args.line_ends w
    (versioned c.args.version (chars c.args.text.now)))) c.self.view_is)
