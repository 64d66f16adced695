use Rattle.std.specs.Prelude.{option_map}
use Rattle.std.proofs.Common.{◌∷◌, ◌++◌, ◌∙◌, [], ap, subst, sym}
use Rattle.std.proofs.lemmas.Result.{on_ok_weaker}
use Rattle.lsp_trail.specs.Common.{call_view, heard_events}
use Rattle.lsp_notes.specs.MessageNotes.{served_with}
use Rattle.lsp_notes.specs.ServerEdits.{AreServerEdits}
use Rattle.lsp_notes.proofs.Refusing.{refusals_called}
use Rattle.lsp_notes.proofs.messages.MessageNotes.note_call.Goals as goal

-- what the server sends is left out
pub returns-then-broken : goal.returns-then-broken
returns-then-broken c = λ terms before h served trail are sound seen kept said. record {
  refusals = refusals_called terms before h c.args.self.now.refusals _ are.refusals kept
      seen.noted.0 (sym seen.says ∙ ap (option_map call_view) said);
  spellings = c.in_ok-note_call.ensures terms before h trail are.spellings seen kept said;
  server = subst (λ b. AreServerEdits terms c.args.self.now.server_edits
      (served_with b served (heard_events (before ++ h ∷ [])))) (sym c.if-broken.true) are.server;
}

pub returns : goal.returns
returns c = on_ok_weaker c.note_call-2.result
    (λ noted terms before h served trail are sound seen kept said. record {
      refusals = refusals_called terms before h c.args.self.now.refusals _ are.refusals kept
          seen.noted.0 (sym seen.says ∙ ap (option_map call_view) said);
      spellings = c.in_ok-note_call.ensures terms before h trail are.spellings seen kept said;
      server = subst (λ b. AreServerEdits terms c.note_call-2.new.self
          (served_with b served (heard_events (before ++ h ∷ [])))) (sym c.if-broken.false)
          (noted terms before h (call_view c.args.call) trail
          (subst (AreServerEdits terms c.args.self.now.server_edits) (sound c.if-broken.false)
          are.server) seen kept
          (sym seen.says ∙ ap (option_map call_view) said));
    }) c.note_call-2.ensures
