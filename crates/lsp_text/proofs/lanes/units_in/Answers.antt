use Rattle.std.proofs.Common.{ap, sym, ◌∙◌}
use Rattle.std.specs.List.{sum_by}
use Rattle.lsp_types.specs.declared.position.Encoding.{Encoding}
use Rattle.lsp_types.specs.declared.position.Encoding.TheVariants.{Utf16, Utf32}
use Rattle.lsp_text.specs.Offsets.{byte_units}
use Rattle.lsp_text.proofs.ByteUnits.{sum_utf8}
use Rattle.lsp_text.proofs.Starts.{lanes_fit, utf16_few, utf32_few, sum_of_lanes}
use Rattle.lsp_text.proofs.lanes.units_in.Goals as goal

pub returns-in-Utf8 : goal.returns-in-Utf8
returns-in-Utf8 c = sym c.requires ∙ sym (sum_utf8 c.args.block)
    ∙ ap (λ (e : Encoding). sum_by (byte_units e) c.args.block) (sym c.in-Utf8.is)

pub overflow_add-result : goal.overflow_add-result
overflow_add-result c = lanes_fit (byte_units Utf16) c.args.block c.utf16_starts.result c.requires
    c.utf16_starts.ensures (utf16_few c.args.block)

pub returns-in-Utf16 : goal.returns-in-Utf16
returns-in-Utf16 c =
    sum_of_lanes (byte_units Utf16) c.args.block c.utf16_starts.result c.utf16_starts.ensures
    ∙ ap (λ (e : Encoding). sum_by (byte_units e) c.args.block) (sym c.in-Utf16.is)

pub overflow_add-result-in-Utf32 : goal.overflow_add-result-in-Utf32
overflow_add-result-in-Utf32 c =
    lanes_fit (byte_units Utf32) c.args.block c.starts.result c.requires c.starts.ensures
    (utf32_few c.args.block)

pub returns-in-Utf32 : goal.returns-in-Utf32
returns-in-Utf32 c =
    sum_of_lanes (byte_units Utf32) c.args.block c.starts.result c.starts.ensures
    ∙ ap (λ (e : Encoding). sum_by (byte_units e) c.args.block) (sym c.in-Utf32.is)
