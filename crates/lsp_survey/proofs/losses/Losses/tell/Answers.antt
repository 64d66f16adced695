use Rattle.std.proofs.Common.{◌∙◌, ap, refl, subst, sym}
use Rattle.std.proofs.lemmas.Result.{IfOk-weaker, on_err_weaker}
use Rattle.lsp_survey.proofs.Losing.{message_kept, shown_kept}
use Rattle.lsp_verdict.specs.Placed.{Raw}
use Rattle.lsp_verdict.specs.Given.{raw_view}
use Rattle.lsp_replay.specs.Telling.{HasFate, rule_of}
use Rattle.lsp_replay.proofs.Wanting.{on_err}
use Rattle.lsp_survey.specs.Lost.{may_lose}
use Rattle.lsp_survey.proofs.losses.Losses.tell.Goals as goal

pub returns-in_err-note_kept-in-Kept-clause-memory :
    goal.returns-in_err-note_kept-in-Kept-clause-memory
returns-in_err-note_kept-in-Kept-clause-memory c =
    on_err c.from_residual.result (λ terms before h seen.
    ap (λ (r : Raw). may_lose r (rule_of terms before h)) (seen.is ∙ ap raw_view c.in-Content.is))

pub returns-in-Offends-clause-memory : goal.returns-in-Offends-clause-memory
returns-in-Offends-clause-memory c = on_err_weaker c.offend.result
    (λ noted terms before h seen.
    ap (λ (r : Raw). may_lose r (rule_of terms before h)) seen.is
    ∙ ap (may_lose (raw_view c.args.seen.now.raw))
    (subst (HasFate terms before h) c.in-Offends.is seen.fate).0 ∙ noted) c.offend.ensures.memory

pub returns-in_ok-note_kept-in-Kept-clause-told : goal.returns-in_ok-note_kept-in-Kept-clause-told
returns-in_ok-note_kept-in-Kept-clause-told c = λ terms before h losses seen.
    message_kept terms before h _ (sym seen.says) seen.noted
    (subst (HasFate terms before h) c.in-Kept.is seen.fate).0 c.in-Content.side _ _ _ losses
    (seen.is ∙ ap raw_view c.in-Content.is) c.in_ok-note_kept-in-Kept.ensures
    c.after_message-self.ensures refl refl refl refl

pub returns-in_default-clause-told : goal.returns-in_default-clause-told
returns-in_default-clause-told c = λ terms before h losses seen.
    shown_kept terms before h _ (sym seen.says) seen.noted
    (subst (HasFate terms before h) c.in-Kept.is seen.fate).0 _ losses c.args.seen.now.raw seen.is
    c.in_default.not-Content

pub returns-in-Offends-clause-told : goal.returns-in-Offends-clause-told
returns-in-Offends-clause-told c = IfOk-weaker c.offend.result _ _
    (λ late told terms before h losses seen. told terms before h losses seen
    (subst (HasFate terms before h) c.in-Offends.is seen.fate).0) c.offend.ensures.told
