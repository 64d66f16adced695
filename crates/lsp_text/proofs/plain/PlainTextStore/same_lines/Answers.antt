use Rattle.std.proofs.Common.{◌≡◌, List, ℕ, sym, ap, ◌∙◌}
use Rattle.std.specs.Str.{chars}
use Rattle.lsp_types.specs.declared.line_ends.LineEnds.TheVariants.{Ignored}
use Rattle.lsp_text.specs.SameText.{compared}
use Rattle.lsp_text.proofs.plain.PlainTextStore.same_lines.Goals as goal

pub returns : goal.returns
returns c =
    let held : chars c.as_str.result.now ≡ c.args.self.now =
    ap chars c.as_str.ensures.value ∙ c.self.view_is in
    let seen = ap (λ (x : List ℕ). compared Ignored x) held in
    (λ t. sym seen ∙ c.same_lines.ensures.0 t, λ e. c.same_lines.ensures.1 (seen ∙ e))
