use Rattle.std.specs.Prelude.{◌||◌}
use Rattle.std.proofs.Common.{◌∙◌, ap}
use Rattle.lsp_survey.specs.Lost.{follows_of}
use Rattle.lsp_survey.proofs.losses.Losses.offend_call.Goals as goal

pub returns-clause-stays : goal.returns-clause-stays
returns-clause-stays c = λ i. record c.args.self.now {
  documents = c.note_refused.new.notes;
  handshake = c.args.self.now.handshake || c.breaks_handshake.ensures i;
}

pub returns-clause-noted : goal.returns-clause-noted
returns-clause-noted c = c.in_ok-note_refused.ensures

pub returns-clause-follows : goal.returns-clause-follows
returns-clause-follows c = λ terms before losses stands.
    c.follows-follows.ensures terms before losses stands
    ∙ ap (λ on_lost. follows_of terms before c.args.rule on_lost c.args.late)
    (c.in_ok-on_lost.ensures terms before losses)
