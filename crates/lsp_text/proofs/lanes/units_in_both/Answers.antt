use Rattle.std.proofs.Common.{ap, ap₂, sym, ◌∙◌, ◌+◌, arith}
use Rattle.std.specs.List.{sum_by}
use Rattle.std.specs.Simd.Lanes.{zip2}
use Rattle.lsp_types.specs.declared.position.Encoding.{Encoding}
use Rattle.lsp_types.specs.declared.position.Encoding.TheVariants.{Utf16, Utf32}
use Rattle.lsp_text.specs.Offsets.{byte_units}
use Rattle.lsp_text.proofs.ByteUnits.{sum_utf8}
use Rattle.lsp_text.proofs.Starts.{both_utf16_fit, both_utf32_fit, both_fit_in_sum, sum_of_both}
use Rattle.lsp_text.proofs.Starts.{utf16_few, utf32_few}
use Rattle.lsp_text.proofs.lanes.units_in_both.Goals as goal

pub returns-in-Utf8 : goal.returns-in-Utf8
returns-in-Utf8 c =
    let first = c.args.first in
    let second = c.args.second in
    omega (
      arith,
      c.requires.first,
      c.requires.second,
      sum_utf8 first,
      sum_utf8 second,
      ap (λ (e : Encoding). sum_by (byte_units e) first + sum_by (byte_units e) second) c.in-Utf8.is,
    )

pub overflow_add-units : goal.overflow_add-units
overflow_add-units c =
    both_utf16_fit c.args.first c.args.second c.utf16_starts.result
    c.utf16_starts-in-Utf16.result c.utf16_starts.ensures c.utf16_starts-in-Utf16.ensures

pub overflow_add-result : goal.overflow_add-result
overflow_add-result c =
    both_fit_in_sum (byte_units Utf16) c.args.first c.args.second _ c.requires.first
    c.requires.second
    (ap₂ (zip2 (λ a b. a + b)) c.utf16_starts.ensures c.utf16_starts-in-Utf16.ensures)
    (utf16_few c.args.first) (utf16_few c.args.second)

pub returns-in-Utf16 : goal.returns-in-Utf16
returns-in-Utf16 c =
    let first = c.args.first in
    let second = c.args.second in
    sum_of_both (byte_units Utf16) first second _ c.requires.first c.requires.second
    (ap₂ (zip2 (λ a b. a + b)) c.utf16_starts.ensures c.utf16_starts-in-Utf16.ensures)
    ∙ ap (λ (e : Encoding). sum_by (byte_units e) first + sum_by (byte_units e) second)
    (sym c.in-Utf16.is)

pub overflow_add-units-in-Utf32 : goal.overflow_add-units-in-Utf32
overflow_add-units-in-Utf32 c =
    both_utf32_fit c.args.first c.args.second c.starts.result c.starts-in-Utf32.result
    c.starts.ensures c.starts-in-Utf32.ensures

pub overflow_add-result-in-Utf32 : goal.overflow_add-result-in-Utf32
overflow_add-result-in-Utf32 c =
    both_fit_in_sum (byte_units Utf32) c.args.first c.args.second _ c.requires.first
    c.requires.second
    (ap₂ (zip2 (λ a b. a + b)) c.starts.ensures c.starts-in-Utf32.ensures)
    (utf32_few c.args.first) (utf32_few c.args.second)

pub returns-in-Utf32 : goal.returns-in-Utf32
returns-in-Utf32 c =
    let first = c.args.first in
    let second = c.args.second in
    sum_of_both (byte_units Utf32) first second _ c.requires.first c.requires.second
    (ap₂ (zip2 (λ a b. a + b)) c.starts.ensures c.starts-in-Utf32.ensures)
    ∙ ap (λ (e : Encoding). sum_by (byte_units e) first + sum_by (byte_units e) second)
    (sym c.in-Utf32.is)
