use Rattle.std.specs.Prelude.{◌||◌, ◌==◌, option_map}
use Rattle.std.proofs.Common.{◌∙◌, Some, None, false, ap, subst, sym}
use Rattle.lsp_replay.specs.Common.{breaks_handshake, call_view, calls, events_of, is_on_lost}
use Rattle.lsp_replay.specs.Common.{is_reopened, kept_of, leaves_unsynced, message_view, Terms}
use Rattle.lsp_types.specs.declared.rules.TheConstants as rules
use Rattle.lsp_survey.specs.Lost.{follows_of}
use Rattle.lsp_survey.specs.Notes.{Leaves, Passes, sides_read}
use Rattle.lsp_survey.specs.declared.losses.Losses.{Losses}
use Rattle.lsp_survey.specs.declared.notes.passed.Passed.{Passed}
use Rattle.lsp_survey.proofs.PassedSteps.{message_initialized, message_passes, message_unheard}
use Rattle.lsp_survey.proofs.SidesSteps.{message_after, message_answers}
use Rattle.lsp_survey.proofs.losses.Losses.offend_message.Goals as goal

pub returns : goal.returns
returns c = λ terms before event losses same holds is.
    let old = c.args.self.now in
    let side = c.args.side in
    let rule = c.args.rule in
    let message = message_view c.args.message.now in
    let said = option_map call_view c.args.said in
    let kept = kept_of terms (events_of before) in
    let told = c.in_ok-follows.ensures in (
      told.follows terms before losses holds.sent
          ∙ ap (λ late. follows_of terms before rule
          (is_on_lost terms before said) late)
          (c.message_follows-late.ensures terms before event losses is),
      record {
        is_broken = ap (λ (l : Losses). l.handshake) told.stays
            ∙ ap (λ b. old.handshake || b)
            (message_answers side (breaks_handshake false rule) kept message event is);
        sides = c.after_message-self.ensures
            ∙ ap (λ (l : Losses). sides_read side l.sides) told.stays
            ∙ message_after side old.sides message event is;
        passed = message_passes side message event is rule old.passed c.note.new.self
            (subst (λ (p : Passed). Passes rule side message p c.note.new.self)
            (ap (λ (l : Losses). l.passed) told.stays) c.in_ok-note.ensures);
        unheard = ap (λ (l : Losses). l.unheard
            || (c.is_initialized.result || rule == rules.INITIALIZED_NOT_FIRST)) told.stays
            ∙ ap (λ b. old.unheard || b)
            (ap (λ b. b || rule == rules.INITIALIZED_NOT_FIRST)
            (c.is_initialized.ensures ∙ message_initialized side message event is)
            ∙ message_unheard side message event is rule);
        unsynced = ap (λ (l : Losses). l.unsynced || rule == rules.DYNAMIC_REGISTRATION) told.stays
            ∙ ap (λ e. old.unsynced || leaves_unsynced rule e) (sym is.1);
        noted = subst (λ (t : Terms). Leaves (Some rule) None (is_reopened t (calls kept) said) said
            old.documents.map.entries c.offend_call.new.self.documents.map.entries) same
            (told.noted (calls kept) holds.called);
      },
    )
