use Rattle.std.specs.List.{cons_option}
use Rattle.std.specs.Prelude.{option_map}
use Rattle.std.proofs.Common.{◌∙◌, [], refl, subst}
use Rattle.std.proofs.lemmas.Result.{on_ok_weaker}
use Rattle.lsp_trail.specs.Common.{edits_of, on_document}
use Rattle.lsp_notes.specs.DocumentNotes.{document_note, notes_view, with_note}
use Rattle.lsp_notes.specs.LateEdits.{HoldsLate, if_late}
use Rattle.lsp_notes.specs.TextsSince.{contents}
use Rattle.lsp_notes.proofs.server_edits.ServerEdits.note_sight.Goals as goal

pub returns : goal.returns
returns c =
    let place = c.args.now.place in
    let old = c.args.self.now in
    record {
      asked = refl;
      late_edits = refl;
      unsent = refl;
      outside = on_ok_weaker c.note_late.result (λ held. c.in_ok-push_if.ensures
          ∙ (λ i. with_note (notes_view old.outside.items) (option_map
          (document_note (on_document (c.as_str-uri.ensures.value i) place))
          (c.in_ok-outside.ensures i)))) c.note_late.ensures;
      overlaps = on_ok_weaker c.note_late.result (λ held. c.in_ok-push_if-2.ensures
          ∙ (λ i. with_note (notes_view old.overlaps.items) (option_map
          (document_note (on_document (c.as_str-uri.ensures.value i) place))
          (c.in_ok-overlap.ensures i)))) c.note_late.ensures;
      late = on_ok_weaker c.note_late.result (λ held. subst (λ u. HoldsLate (cons_option
          (if_late u c.args.edited.now.since place (contents c.args.texts.now)
          (edits_of c.args.edits.now)) []) old.late.items c.note_late.new.late.items)
          c.as_str-uri.ensures.value held) c.note_late.ensures;
    }
