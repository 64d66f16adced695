use Rattle.std.proofs.Common.{List, ℕ, take, ap, ◌∙◌}
use Rattle.std.specs.Str.{chars}
use Rattle.lsp_types.specs.declared.position.Encoding.TheVariants.{Utf32}
use Rattle.lsp_text.specs.Places.{units}
use Rattle.lsp_text.proofs.Widths.{units-utf32}
use Rattle.lsp_lined.proofs.lined.lines.Lines.chars_before.Goals as goal

pub returns : goal.returns
returns c =
    c.units_before.ensures
    ∙ ap (λ (x : List ℕ). units Utf32 (chars (take c.args.offset x))) c.self.view_is
    ∙ units-utf32 (chars (take c.args.offset c.args.self.now))
