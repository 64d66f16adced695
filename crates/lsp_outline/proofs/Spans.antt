-- Positions and ranges of which the numbers are kept.
use Rattle.std.proofs.Common.{◌≡◌, ◌<◌, ◌^◌, ℕ, Some, option_map, pos, refl, ap, ◌∙◌}
use Rattle.serde_json.specs.Data.{Data, null, boolean, number, string, array, object, unsigned}
use Rattle.lsp_rpc.specs.Params.{if_given, position_at, span_at}
use Rattle.lsp_rpc.specs.Shape.{as_integer, unless_null}
use Rattle.lsp_types.specs.declared.position.Span.{Span}
use Rattle.lsp_outline.proofs.Editing.{small_natural}
use Rattle.lsp_walk.specs.Places.{KeepsPosition, KeepsRange}

abbrev IsKept : Data → ℕ → Type 0
IsKept d n = (d ≡ number (unsigned n)) × (n < 2 ^ 31)

integer_kept : (d : Data) (n : ℕ) → IsKept d n → as_integer d ≡ Some (pos n)
integer_kept d n is = ap as_integer is.0 ∙ small_natural n is.1

position_read : (x : Data) (kept : ℕ × ℕ) → KeepsPosition IsKept x kept
    → position_at x ≡ Some (record { line = kept.0; column = kept.1 })
position_read x kept is =
    let line = integer_kept is.one kept.0 is.keeps_one in
    let column = integer_kept is.two kept.1 is.keeps_two in
    rw (is.has_one, is.has_two, line, column) refl

pub span_read : (x : Data) (kept : (ℕ × ℕ) × (ℕ × ℕ)) → KeepsRange IsKept x kept
    → span_at x ≡ Some (record {
      first = record { line = kept.0.0; column = kept.0.1 };
      second = record { line = kept.1.0; column = kept.1.1 };
    })
span_read x kept is =
    let first = position_read is.one kept.0 is.keeps_one in
    let second = position_read is.two kept.1 is.keeps_two in
    rw (is.has_one, is.has_two, first, second) refl

-- null is no range
pub given_span : (x : Data) (span : Span) → span_at x ≡ Some span
    → if_given span_at (unless_null x) ≡ Some (Some span)
given_span null span is = absurd (cc)
given_span _ span is = ap (option_map Some) is
