use Rattle.std.proofs.Common.{◌≡◌, sym, ap, ◌∙◌}
use Rattle.std.specs.Str.{chars}
use Rattle.lsp_text.proofs.Counting.{chars_same}
use Rattle.lsp_lined.specs.Counted.{Counted}
use Rattle.lsp_lined.proofs.lined.LinedTextStore.equals.Goals as goal

pub returns : goal.returns
returns c =
    let held : chars c.self.inside.lines ≡ c.args.self.now.content = ap (λ (x : Counted). x.content) c.self.view_is in
    let same = c.spell.ensures.value in
    (λ t. sym held ∙ ap chars (same.0 t), λ e. same.1 (chars_same c.self.inside.lines c.args.text.now c.spell.ensures.utf8 c.utf8.text (held ∙ e)))
