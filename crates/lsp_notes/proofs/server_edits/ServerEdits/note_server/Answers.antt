use Rattle.std.specs.Prelude.{map}
use Rattle.std.proofs.Common.{◌∙◌, ap, subst}
use Rattle.std.proofs.lemmas.Result.{on_ok_weaker}
use Rattle.lsp_notes.specs.ServerEdits.{NotesBy, edited_in_message, edited_view, uris_with}
use Rattle.lsp_notes.proofs.server_edits.ServerEdits.note_server.Goals as goal

pub returns : goal.returns
returns c = on_ok_weaker c.note_all.result
    (λ noted terms before event m now are reads same named.
    let uris = uris_with terms before event in
    subst (λ es. NotesBy terms before event es c.args.self.now c.note_all.new.self)
    (ap (map edited_view) c.as_slice.ensures.value
    ∙ c.in_ok-edited.ensures terms before event m now are.asked_are reads same named
    ∙ ap (λ p. edited_in_message terms before uris p m) now.place)
    (noted terms before event now)) c.note_all.ensures
