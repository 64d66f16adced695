use Rattle.std.proofs.Common.{◌≡◌, List, ℕ, sym, ap, ◌∙◌}
use Rattle.std.specs.Str.{chars}
use Rattle.lsp_types.specs.declared.line_ends.LineEnds.TheVariants.{Ignored}
use Rattle.lsp_text.specs.SameText.{compared}
use Rattle.lsp_text.proofs.SameBytes.{same_bytes}
use Rattle.lsp_lined.specs.Counted.{Counted}
use Rattle.lsp_lined.proofs.lined.LinedTextStore.same_lines.Goals as goal

pub returns : goal.returns
returns c =
    let held : chars c.self.inside.lines ≡ c.args.self.now.content =
    ap (λ (x : Counted). x.content) c.self.view_is in
    let seen = ap (λ (x : List ℕ). compared Ignored x) held in
    let same = same_bytes c.self.inside.lines c.args.text.now c.have.ensures.utf8 c.utf8.text in
    let answer = c.have.ensures.value in
    (λ t. sym seen ∙ same.0 (answer.0 t), λ e. answer.1 (same.1 (seen ∙ e)))
