use Rattle.std.specs.Prelude.{◌||◌}
use Rattle.std.proofs.Common.{◌∙◌, false, ap}
use Rattle.lsp_verdict.specs.Offences.{events_of}
use Rattle.lsp_survey.specs.Lost.{follows_of}
use Rattle.lsp_survey.proofs.SidesSteps.{fault_late}
use Rattle.lsp_survey.proofs.losses.Losses.offend_fault.Goals as goal

pub returns-clause-broken : goal.returns-clause-broken
returns-clause-broken c = λ kept stands.
    ap (λ b. c.args.self.now.handshake || b) (c.breaks.ensures kept stands)

pub returns-clause-follows : goal.returns-clause-follows
returns-clause-follows c = λ terms before losses stands.
    c.follows-follows.ensures terms before losses stands
    ∙ ap (λ late. follows_of terms before c.args.rule false late)
    (c.fault_follows-late.ensures
    ∙ fault_late c.args.rule c.args.side c.args.self.now.sides (events_of before) losses.sided)

pub returns-clause-stays : goal.returns-clause-stays
returns-clause-stays c = λ i. record c.args.self.now {
  handshake = c.args.self.now.handshake || c.breaks.result;
  sides = c.after_fault-self.ensures i;
}
