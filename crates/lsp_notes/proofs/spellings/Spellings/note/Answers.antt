use Rattle.std.specs.Prelude.{option_map, string_bytes}
use Rattle.std.proofs.Common.{◌∙◌, ap, sym}
use Rattle.std.proofs.lemmas.Result.{on_ok_weaker}
use Rattle.lsp_notes.specs.DocumentNotes.{document_note, is_noted, notes_view, with_note}
use Rattle.lsp_trail.specs.History.{on_document}
use Rattle.lsp_notes.specs.Spellings.{other_spelling}
use Rattle.lsp_notes.proofs.OtherSpellings.{note_by_words, noted_before, noted_now}
use Rattle.lsp_notes.proofs.spellings.Spellings.note.Goals as goal

-- it has a note, or there is no room
pub returns-then-is_noted : goal.returns-then-is_noted
returns-then-is_noted c = λ before made stands opened others.
    let uri = c.args.uri.now in
    noted_before (notes_view c.args.self.now.named.items) uri c.args.place
    (other_spelling c.args.docs.now.terms before uri)
    (ap (λ ns. is_noted uri (notes_view ns)) (sym c.as_slice.ensures.value)
    ∙ sym c.is_noted.ensures ∙ c.if-is_noted.true)

-- there is no other spelling
pub returns-in_default : goal.returns-in_default
returns-in_default c = λ before made stands opened others.
    let uri = c.args.uri.now in
    let note = document_note (on_document uri c.args.place) in
    ap (with_note (notes_view c.args.self.now.named.items))
    (ap (λ w. option_map note (option_map string_bytes w)) (sym c.in_default.is)
    ∙ note_by_words uri c.args.place (other_spelling c.args.docs.now.terms before uri) _
    (c.in_ok-words.ensures before made stands opened others))

pub returns : goal.returns
returns c = on_ok_weaker c.push_note.result (λ pushed before made stands opened others.
    let uri = c.args.uri.now in
    let notes = notes_view c.args.self.now.named.items in
    let note = document_note (on_document uri c.args.place) in
    pushed
    ∙ noted_now notes uri c.args.place (string_bytes c.in-Some.words)
    (ap (λ ns. is_noted uri (notes_view ns)) (sym c.as_slice.ensures.value)
    ∙ sym c.is_noted.ensures ∙ c.if-is_noted.false)
    ∙ ap (with_note notes)
    (ap (λ w. option_map note (option_map string_bytes w)) (sym c.in-Some.is)
    ∙ note_by_words uri c.args.place (other_spelling c.args.docs.now.terms before uri) _
    (c.in_ok-words.ensures before made stands opened others)))
    c.push_note.ensures
