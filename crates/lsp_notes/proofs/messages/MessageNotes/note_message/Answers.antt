use Rattle.std.proofs.Common.{subst, sym}
use Rattle.std.proofs.lemmas.Result.{on_ok_weaker}
use Rattle.lsp_trail.specs.Common.{heard_events, kept_before}
use Rattle.lsp_notes.specs.Refusals.{AreRefusals}
use Rattle.lsp_notes.proofs.messages.MessageNotes.note_message.Goals as goal

pub returns : goal.returns
returns c = on_ok_weaker c.note_message.result
    (λ refused terms before h served trail are sound stood kept is spoken says.
    let seen = c.in_ok-note_named.ensures in
    let own = c.in_ok-named.ensures (kept_before terms before) h.note.event is.0 spoken in
    let two = seen.noted terms before h served trail are.spellings are.server sound own stood kept is
    spoken says in
    record {
      refusals = refused terms before h trail
          (subst (λ r. AreRefusals terms r (heard_events before)) (sym seen.refusals) are.refusals)
          own stood kept is spoken says;
      spellings = two.0;
      server = two.1;
    }) c.note_message.ensures
