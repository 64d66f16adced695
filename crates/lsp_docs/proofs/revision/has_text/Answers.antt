use Rattle.std.proofs.Common.{sym, ap, ◌∙◌}
use Rattle.std.specs.Str.{chars}
use Rattle.lsp_types.specs.declared.line_ends.LineEnds.{LineEnds}
use Rattle.lsp_types.specs.declared.line_ends.LineEnds.TheVariants.{Exact, Ignored}
use Rattle.lsp_text.specs.SameText.{same_text}
use Rattle.lsp_docs.proofs.Others.{same_where}
use Rattle.lsp_docs.proofs.revision.has_text.Goals as goal

pub returns-in-Exact : goal.returns-in-Exact
returns-in-Exact g c =
    let held = g.S.TextStore.content c.args.store.now in
    let text = chars c.args.text.now in
    same_where Exact held text c.equals.result c.equals.ensures
    ∙ ap (λ (ends : LineEnds). same_text ends held text) (sym c.in-Exact.is)

pub returns-in-Ignored : goal.returns-in-Ignored
returns-in-Ignored g c =
    let held = g.S.TextStore.content c.args.store.now in
    let text = chars c.args.text.now in
    same_where Ignored held text c.same_lines.result c.same_lines.ensures
    ∙ ap (λ (ends : LineEnds). same_text ends held text) (sym c.in-Ignored.is)
