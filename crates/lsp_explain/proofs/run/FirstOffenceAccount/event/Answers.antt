use Rattle.std.proofs.Common.{refl, string_bytes, subst, sym}
use Rattle.std.proofs.lemmas.Result.{IfOk-weaker}
use Rattle.lsp_replay.proofs.AllHeard.{kept_seen}
use Rattle.lsp_replay.proofs.Wanting.{on_err}
use Rattle.lsp_trail.specs.Common.{heard_events, ShowsFault}
use Rattle.lsp_notes.specs.Misfits.{AreMisfits}
use Rattle.lsp_explain.proofs.AccountSteps.{first_kept}
use Rattle.lsp_notes.proofs.Misfitting.{found_kept-push}
use Rattle.lsp_explain.proofs.run.FirstOffenceAccount.event.Goals as goal

-- it is kept
pub returns-in_default : goal.returns-in_default
returns-in_default c = record {
  asked = refl;
  memory = tt;
  says = λ terms before h stands seen.
      let rule = kept_seen terms before h c.args.seen.now.fate c.in_default.not-Offends seen.fate in
      first_kept terms before h c.args.self.now _ stands (ShowsFault c.args.seen.now.raw (heard_events before))
      (string_bytes c.args.text.now) rule (c.in_ok-keep.ensures terms before h stands.trail seen)
      (subst (AreMisfits _) (sym (found_kept-push terms before h))
      (c.in_ok-note_kept.ensures terms before h _ stands.misfits seen))
      (c.in_ok-note_event.ensures terms before h (heard_events before) stands.trail stands.messages
      (λ is. refl) seen rule);
}

-- memory is refused
pub returns-in_err-note_event-clause-memory : goal.returns-in_err-note_event-clause-memory
returns-in_err-note_event-clause-memory c =
    on_err c.from_residual.result (λ terms before h stands seen. refl)

pub returns-in_err-keep-clause-memory : goal.returns-in_err-keep-clause-memory
returns-in_err-keep-clause-memory c =
    on_err c.from_residual-in_err-keep.result (λ terms before h stands seen. refl)

pub returns-in_err-note_kept-clause-memory : goal.returns-in_err-note_kept-clause-memory
returns-in_err-note_kept-clause-memory c =
    on_err c.from_residual-in_err-note_kept.result (λ terms before h stands seen. refl)

-- it offends
pub returns : goal.returns
returns c = record {
  asked = c.explain.ensures.asked;
  memory = on_err c.explain.result (λ terms before h stands seen. refl);
  says = IfOk-weaker c.explain.result _ _ (λ flow says terms before h stands seen.
      says terms before h stands seen c.in-Offends.is) c.explain.ensures.says;
}
