use Rattle.std.specs.Prelude.{option_and_then, option_map}
use Rattle.std.proofs.Common.{◌∙◌, Some, ap, sym}
use Rattle.std.proofs.lemmas.Result.{on_ok_weaker}
use Rattle.lsp_rpc.specs.View.{message_view}
use Rattle.lsp_notes.specs.DocumentNotes.{notes_view, with_note}
use Rattle.lsp_notes.specs.Refusals.{note_on, open_document, refused_id}
use Rattle.lsp_notes.proofs.Refusing.{refused_in_turn}
use Rattle.lsp_notes.proofs.refusals.note_answer.Goals as goal

-- it refuses none
pub returns-in_default : goal.returns-in_default
returns-in_default c = λ terms before trail are.
    ap (λ o. with_note (notes_view c.args.refused.now.items)
    (option_map (note_on c.args.place) o))
    (ap (option_and_then (open_document terms before)) (c.in_default.ensures terms before trail are)
    ∙ sym (refused_in_turn terms before (refused_id (message_view c.args.message.now))))

-- one that names no document that is open since
pub returns-in_default-open_document : goal.returns-in_default-open_document
returns-in_default-open_document c = λ terms before trail are.
    ap (λ o. with_note (notes_view c.args.refused.now.items)
    (option_map (note_on c.args.place) o))
    (c.in_default-open_document.ensures terms before trail.marked
    ∙ ap (option_and_then (open_document terms before)) (c.in-Some.ensures terms before trail are)
    ∙ sym (refused_in_turn terms before (refused_id (message_view c.args.message.now))))

pub returns : goal.returns
returns c = on_ok_weaker c.note_refusal.result (λ noted terms before trail are.
    let old = notes_view c.args.refused.now.items in
    noted
    ∙ ap (λ o. with_note old (option_map (note_on c.args.place) o))
    (c.in-Some-open_document.ensures terms before trail.marked
    ∙ ap (option_and_then (open_document terms before)) (c.in-Some.ensures terms before trail are)
    ∙ sym (refused_in_turn terms before (refused_id (message_view c.args.message.now)))))
    c.note_refusal.ensures
