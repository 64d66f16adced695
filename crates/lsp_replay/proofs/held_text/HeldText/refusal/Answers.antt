use Rattle.std.specs.Prelude.{option_map}
use Rattle.std.proofs.Common.{◌∙◌, Some, ap, sym}
use Rattle.lsp_replay.specs.Telling.{no_of}
use Rattle.lsp_replay.specs.TextAnswers.{refusal_by}
use Rattle.lsp_replay.proofs.AllHeard.{none_is}
use Rattle.lsp_verdict.specs.Heard.{heard_events}
use Rattle.lsp_verdict.specs.Offences.{Offence}
use Rattle.lsp_verdict.specs.Verdict.{no_by}
use Rattle.lsp_replay.proofs.held_text.HeldText.refusal.Goals as goal

pub returns-then-self : goal.returns-then-self
returns-then-self c = λ terms before h seen.
    ap (λ b. refusal_by b (no_of terms before h)) (sym c.if-self.true)

pub returns-in-Offends : goal.returns-in-Offends
returns-in-Offends c = λ terms before h seen.
    let fate = rw c.in-Offends.is at seen.fate in
    ap Some (c.verdict.ensures ∙ ap (λ (o : Offence). o.no)
    (c.last_offence.ensures before h seen.stood.counted seen.few seen.is seen.noted))
    ∙ ap (option_map (no_by (heard_events before) h.note.event)) (sym fate.0)
    ∙ ap (λ b. refusal_by b (no_of terms before h)) (sym c.if-self.false)

pub returns-in-Kept : goal.returns-in-Kept
returns-in-Kept c = λ terms before h seen.
    let fate = rw c.in-Kept.is at seen.fate in
    sym (none_is terms before h fate.0)
    ∙ ap (λ b. refusal_by b (no_of terms before h)) (sym c.if-self.false)
