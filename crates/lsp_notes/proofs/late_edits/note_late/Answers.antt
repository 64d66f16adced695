use Rattle.std.specs.Prelude.{string_bytes}
use Rattle.std.proofs.Common.{◌∙◌, Some, ap, sym}
use Rattle.std.proofs.lemmas.Result.{on_ok_weaker}
use Rattle.lsp_text.specs.Changes.{edits_of}
use Rattle.lsp_notes.specs.LateEdits.{late_answer}
use Rattle.lsp_notes.specs.TextsSince.{contents}
use Rattle.lsp_notes.proofs.LateSteps.{is_late, not_changed, not_held}
use Rattle.lsp_notes.proofs.EditsByKind.{none_late, one_late}
use Rattle.lsp_notes.proofs.late_edits.note_late.Goals as goal

-- the text did not change
pub returns-then-not-has_changed : goal.returns-then-not-has_changed
returns-then-not-has_changed c =
    none_late _ c.args.late.now.items
    (not_changed c.args.uri.now c.args.asked c.args.answered (contents c.args.texts.now)
    (edits_of c.args.edits.now) (sym c.has_changed.ensures ∙ c.if-not-has_changed.true))

-- the edits are none, or too large
pub returns-then-not-are_held : goal.returns-then-not-are_held
returns-then-not-are_held c =
    none_late _ c.args.late.now.items
    (not_held c.args.uri.now c.args.asked c.args.answered (contents c.args.texts.now)
    (edits_of c.args.edits.now) (sym c.are_held.ensures ∙ c.if-not-are_held.true))

pub returns : goal.returns
returns c = on_ok_weaker c.push_within.result (λ pushed.
    one_late _ _ c.args.late.now.items c.push_within.new.held.items
    (is_late c.args.uri.now c.args.asked c.args.answered (contents c.args.texts.now)
    (edits_of c.args.edits.now) (sym c.has_changed.ensures ∙ c.if-not-has_changed.false)
    (sym c.are_held.ensures ∙ c.if-not-are_held.false)
    ∙ (λ i. Some (late_answer (sym c.in_ok-uri.ensures.ok i) c.args.asked c.args.answered
    (sym c.in_ok-edits.ensures i)))) pushed) c.push_within.ensures
