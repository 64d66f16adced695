use Rattle.std.specs.Prelude.{option_map}
use Rattle.std.proofs.Common.{◌∙◌, ap, refl, sym}
use Rattle.std.proofs.lemmas.Result.{on_ok_weaker}
use Rattle.lsp_notes.specs.DocumentNotes.{document_note, is_noted, notes_view, with_note}
use Rattle.lsp_trail.specs.History.{on_document}
use Rattle.lsp_notes.specs.LateEdits.{words_since}
use Rattle.lsp_notes.proofs.ServerNoting.{late_unchanged, noted_already}
use Rattle.lsp_notes.proofs.server_edits.ServerEdits.note_change.Goals as goal

-- it changes no document
pub returns-in_default : goal.returns-in_default
returns-in_default c = record {
  asked = refl;
  late = refl;
  others = (refl, (refl, refl));
  late_edits = λ before made stands trail are.
      ap (with_note (notes_view c.args.self.now.late_edits.items))
      (sym (late_unchanged c.args.docs.now.terms before made c.args.place c.args.call
      c.in_default.not-Changes));
}

-- its document has a note
pub returns-then-is_noted : goal.returns-then-is_noted
returns-then-is_noted c = rw c.in-Changes.is (record {
  asked = refl;
  late = refl;
  others = (refl, (refl, refl));
  late_edits = λ before made stands trail are.
      let uri = c.in-Changes.uri.now in
      let noted = c.is_noted.ensures ∙ ap (λ l. is_noted uri (notes_view l)) c.as_slice.ensures.value in
      sym (noted_already uri c.args.place (notes_view c.args.self.now.late_edits.items) _
      (sym noted ∙ c.if-is_noted.true));
})

pub returns : goal.returns
returns c = rw c.in-Changes.is (record {
  asked = refl;
  late = refl;
  others = (refl, (refl, refl));
  late_edits = on_ok_weaker c.push_if.result (λ noted before made stands trail are.
      let terms = c.args.docs.now.terms in
      let uri = c.in-Changes.uri.now in
      let old = notes_view c.args.self.now.late_edits.items in
      noted
      ∙ ap (λ o. with_note old (option_map (document_note (on_document uri c.args.place)) o))
      (c.in_ok-words.ensures made stands
      ∙ (λ i. words_since terms made uri c.in-Changes.encoding
      ((c.as_slice-2.ensures.value ∙ c.in_ok-setters.ensures terms before trail.marked) i) (are i))))
      c.push_if.ensures;
})
