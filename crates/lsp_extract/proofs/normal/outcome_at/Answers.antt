use Rattle.std.proofs.Common.{refl, sym, ◌∙◌}
use Rattle.lsp_extract.proofs.Forming.Ends.{editor_ends, server_ends, whole_ends}
use Rattle.lsp_extract.proofs.normal.outcome_at.Goals as goal

pub returns-then-ends_inside : goal.returns-then-ends_inside
returns-then-ends_inside c = rw c.in_default.is (λ limits records given h counted sound.
    editor_ends limits c.args.events.now.streams records given h sound _
    (sym c.ends_inside.ensures ∙ c.if-ends_inside.true) (c.no_next.ensures given counted))

pub returns-then-ends_inside-2 : goal.returns-then-ends_inside-2
returns-then-ends_inside-2 c = rw c.in_default.is (λ limits records given h counted sound.
    server_ends limits c.args.events.now.streams records given h sound _
    (sym c.ends_inside.ensures ∙ c.if-ends_inside.false)
    (sym c.ends_inside-2.ensures ∙ c.if-ends_inside-2.true)
    (c.no_next-then-ends_inside-2.ensures given counted))

pub returns : goal.returns
returns c = rw c.in_default.is (λ limits records given h counted sound.
    whole_ends limits c.args.events.now.streams records given h sound _
    (sym c.ends_inside.ensures ∙ c.if-ends_inside.false)
    (sym c.ends_inside-2.ensures ∙ c.if-ends_inside-2.false) refl)
