use Rattle.std.proofs.Common.{ap, sym, ◌∙◌}
use Rattle.lsp_facts.specs.FrameFronts.{are_header_lines}
use Rattle.lsp_facts.proofs.FrontLines.{blank_next, field_next, left_over, other_next}
use Rattle.lsp_facts.proofs.frame_fronts.are_header_lines.Goals as goal

-- the header part ends
pub returns-then-is_blank_line : goal.returns-then-is_blank_line
returns-then-is_blank_line c =
    sym (c.loop-size.invariant
    ∙ blank_next c.loop-size.left.now c.in-Some.size c.in-Some.ensures.value
    (sym c.is_blank_line.ensures ∙ c.if-is_blank_line.true))

-- a line that is none of one
pub returns-then-not-is_field_line : goal.returns-then-not-is_field_line
returns-then-not-is_field_line c =
    sym (c.loop-size.invariant
    ∙ other_next c.loop-size.left.now c.in-Some.size c.in-Some.ensures.value
    (sym c.is_blank_line.ensures ∙ c.if-is_blank_line.false)
    (sym c.is_field_line.ensures ∙ c.if-not-is_field_line.true))

pub loop-size-preserved : goal.loop-size-preserved
loop-size-preserved c =
    c.loop-size.invariant
    ∙ field_next c.loop-size.left.now c.in-Some.size c.in-Some.ensures.value
    (sym c.is_blank_line.ensures ∙ c.if-is_blank_line.false)
    (sym c.is_field_line.ensures ∙ c.if-not-is_field_line.false)
    ∙ ap are_header_lines (sym c.rest_after-left.ensures)

-- what is left is not at its end
pub returns : goal.returns
returns c =
    c.is_line_front.ensures
    ∙ sym (c.loop-size.invariant ∙ left_over c.loop-size.left.now c.in_default.ensures.value)
