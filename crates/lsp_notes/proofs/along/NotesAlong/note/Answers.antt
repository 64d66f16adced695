use Rattle.std.specs.Prelude.{◌||◌}
use Rattle.std.proofs.Common.{◌∙◌, subst, sym}
use Rattle.std.proofs.lemmas.Result.{on_ok_weaker}
use Rattle.lsp_notes.specs.Misfits.{AreMisfits}
use Rattle.lsp_notes.proofs.NotedSteps.{broken-push, found_along-push, refused-push}
use Rattle.lsp_notes.proofs.along.NotesAlong.note.Goals as goal

pub returns : goal.returns
returns c = on_ok_weaker c.note.result (λ behind terms before h trail are seen. record {
  misfits = subst (AreMisfits c.note_changes.new.misfits) (sym (found_along-push terms before h))
      (c.in_ok-note_changes.ensures terms before h _ are.misfits are.behind seen);
  messages = c.in_ok-note_kept.ensures terms before h trail are.messages are.broken seen;
  broken =
      (λ i. are.broken i || c.offends.ensures terms before h seen.fate i)
      ∙ sym (broken-push terms before h);
  behind = behind terms before h are.behind seen;
  refused =
      (λ i. are.refused i || c.refuses_shutdown.ensures terms before h seen i)
      ∙ sym (refused-push terms before h);
  told_are = are.told_are;
}) c.note.ensures
