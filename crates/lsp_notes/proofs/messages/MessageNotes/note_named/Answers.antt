use Rattle.std.proofs.Common.{◌∷◌, ◌++◌, [], refl, subst, sym}
use Rattle.std.proofs.lemmas.Result.{on_ok_weaker}
use Rattle.lsp_verdict.specs.Heard.{heard_events}
use Rattle.lsp_notes.specs.MessageNotes.{served_with}
use Rattle.lsp_notes.specs.ServerEdits.{AreServerEdits}
use Rattle.lsp_notes.proofs.messages.MessageNotes.note_named.Goals as goal

-- what the server sends is left out
pub returns-then-broken : goal.returns-then-broken
returns-then-broken c = record {
  refusals = refl;
  noted = λ terms before h served trail spelled sent sound named stood kept is spoken says. (
    c.in_ok-note_message.ensures terms before h trail spelled named stood kept is says,
    subst (λ b. AreServerEdits terms c.args.self.now.server_edits
        (served_with b served (heard_events (before ++ h ∷ [])))) (sym c.if-broken.true) sent,
  );
}

pub returns : goal.returns
returns c = record {
  refusals = refl;
  noted = on_ok_weaker c.note_message-2.result
      (λ done terms before h served trail spelled sent sound named stood kept is spoken says. (
        c.in_ok-note_message.ensures terms before h trail spelled named stood kept is says,
        subst (λ b. AreServerEdits terms c.note_message-2.new.self
            (served_with b served (heard_events (before ++ h ∷ [])))) (sym c.if-broken.false)
            (done terms before h trail
            (subst (AreServerEdits terms c.args.self.now.server_edits) (sound c.if-broken.false)
            sent) named stood kept is spoken says),
      )) c.note_message-2.ensures;
}
