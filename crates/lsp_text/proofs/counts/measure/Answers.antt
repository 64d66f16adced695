use Rattle.std.proofs.Common.{ap, sym, ◌∙◌}
use Rattle.std.specs.List.{sum_by}
use Rattle.std.specs.Str.{chars}
use Rattle.lsp_types.specs.declared.position.Encoding.TheVariants.{Utf16, Utf32}
use Rattle.lsp_text.specs.Offsets.{byte_units}
use Rattle.lsp_text.proofs.ByteUnits.{units_by_bytes}
use Rattle.lsp_text.proofs.Widths.{units-utf32}
use Rattle.lsp_text.proofs.counts.measure.Goals as goal

pub returns-clause-chars : goal.returns-clause-chars
returns-clause-chars c =
    c.count.ensures.chars ∙ ap (sum_by (byte_units Utf32)) c.as_bytes.ensures.value
    ∙ sym (units_by_bytes Utf32 c.args.text.now c.utf8.text) ∙ units-utf32 (chars c.args.text.now)

pub returns-clause-utf16 : goal.returns-clause-utf16
returns-clause-utf16 c =
    c.count.ensures.utf16 ∙ ap (sum_by (byte_units Utf16)) c.as_bytes.ensures.value
    ∙ sym (units_by_bytes Utf16 c.args.text.now c.utf8.text)
