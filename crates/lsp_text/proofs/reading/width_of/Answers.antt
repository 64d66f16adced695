use Rattle.std.proofs.Common.{ap, sym, ◌∙◌}
use Rattle.std.specs.Str.{chars}
use Rattle.lsp_types.specs.declared.position.Encoding.{Encoding}
use Rattle.lsp_text.specs.Places.{units}
use Rattle.lsp_text.proofs.Counting.{units-utf8_text}
use Rattle.lsp_text.proofs.Widths.{units-utf32}
use Rattle.lsp_text.proofs.reading.width_of.Goals as goal

pub returns-in-Utf8 : goal.returns-in-Utf8
returns-in-Utf8 c = sym (units-utf8_text c.args.text.now c.utf8.text) ∙ ap (λ (e : Encoding). units e (chars c.args.text.now)) (sym c.in-Utf8.is)

pub returns-in-Utf32 : goal.returns-in-Utf32
returns-in-Utf32 c = c.measure-in-Utf32.ensures.chars ∙ sym (units-utf32 (chars c.args.text.now)) ∙ ap (λ (e : Encoding). units e (chars c.args.text.now)) (sym c.in-Utf32.is)
