use Rattle.std.proofs.Common.{◌≡◌, None, ap, ◌∙◌, rules}
use Rattle.lsp_session.specs.Rules.{rule_after}
use Rattle.lsp_session.specs.State.{next}
use Rattle.lsp_session.specs.View.{sent}
use Rattle.lsp_session.proofs.ByStateLemmas.{early-none}
use Rattle.lsp_session.proofs.Steps.{state_of-push}
use Rattle.lsp_session.proofs.session.Session.admit.Goals as goal

pub returns-clause-admitted : goal.returns-clause-admitted
returns-clause-admitted c = λ before stands.
    let m = sent c.args.side c.args.message.now c.args.act.now in
    c.in_ok-take.ensures.ok ∙ (ap (λ s. next s m) stands ∙ state_of-push before m)

pub returns-in_err-take-clause-memory : goal.returns-in_err-take-clause-memory
returns-in_err-take-clause-memory c = λ refused before stands.
    let m = sent c.args.side c.args.message.now c.args.act.now in
    let none : rule_after before m ≡ None = search rules in
    early-none before m none
