use Rattle.std.proofs.Common.{sym, ◌∙◌}
use Rattle.std.proofs.lemmas.Bool.{false≢true}
use Rattle.lsp_text.proofs.Widths.{offset_at_byte, no_place_at_byte}
use Rattle.lsp_text.proofs.columns.offset_of_byte.Goals as goal

pub returns-then-is_char_boundary : goal.returns-then-is_char_boundary
returns-then-is_char_boundary c =
    offset_at_byte c.args.line.now c.args.column c.min-offset.result c.utf8.line c.min-offset.ensures (c.is_char_boundary.ensures.test.0 c.if-is_char_boundary.true)

pub returns-else-is_char_boundary : goal.returns-else-is_char_boundary
returns-else-is_char_boundary c =
    no_place_at_byte c.args.line.now c.args.column c.min-offset.result c.utf8.line c.min-offset.ensures
    (λ b. false≢true (sym c.if-is_char_boundary.false ∙ c.is_char_boundary.ensures.test.1 b))
