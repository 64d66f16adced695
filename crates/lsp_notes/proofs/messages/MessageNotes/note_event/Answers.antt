use Rattle.std.specs.Prelude.{option_map}
use Rattle.std.proofs.Common.{◌∙◌, ap, subst, sym}
use Rattle.std.proofs.lemmas.Result.{on_ok_weaker}
use Rattle.lsp_trail.specs.Common.{call_view, IsNoted, Raw}
use Rattle.lsp_notes.proofs.messages.MessageNotes.note_event.Goals as goal

-- it says nothing of a document
pub returns-in_default : goal.returns-in_default
returns-in_default c = on_ok_weaker c.note_message.result
    (λ noted terms before h served trail are sound seen kept.
    noted terms before h served trail are sound seen.stood kept
    (subst (λ (w : Raw). IsNoted w h.note) seen.is seen.noted) seen.spoken
    (sym seen.says ∙ ap (option_map call_view) c.in_default.is)) c.note_message.ensures

pub returns : goal.returns
returns c = on_ok_weaker c.note_call.result
    (λ noted terms before h served trail are sound seen kept.
    noted terms before h served trail are sound seen kept c.in-Some.is) c.note_call.ensures
