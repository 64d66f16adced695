use Rattle.std.proofs.Common.{◌≡◌, Some, sym, ap, ◌∙◌}
use Rattle.std.specs.Prelude.{slice_get}
use Rattle.std.specs.Str.{chars}
use Rattle.lsp_docs.specs.Stored.{are_mixed}
use Rattle.lsp_docs.proofs.Mixed.{alike-first, any_other}
use Rattle.lsp_docs.proofs.snapshot.Texts.any_is_not.Goals as goal

pub returns-in-Some : goal.returns-in-Some
returns-in-Some c =
    let text = chars c.args.text.now in
    let ss = c.self.inside.texts.items in
    let first = c.in-Some.first.now in
    let alike = ap (are_mixed c.args.line_ends) c.self.view_is ∙ sym c.are_mixed.ensures
    ∙ c.if-are_mixed.false in
    let there : slice_get ss 0 ≡ Some first =
    ap (λ l. slice_get l 0) (sym c.deref.ensures.value) ∙ sym c.in-Some.ensures.value in
    c.is_other_text.ensures
    ∙ (alike-first c.args.line_ends text ss first there alike
    ∙ ap (any_other c.args.line_ends text) c.self.view_is)
