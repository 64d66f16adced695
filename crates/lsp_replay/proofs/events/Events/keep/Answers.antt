use Rattle.std.proofs.Common.{◌≡◌, ◌∙◌, subst, sym}
use Rattle.std.proofs.lemmas.Result.{err_from_is_err_and}
use Rattle.lsp_docs.specs.State as docs
use Rattle.lsp_types.specs.declared.fault.Fault.TheVariants.{Memory}
use Rattle.lsp_session.specs.State as session
use Rattle.lsp_verdict.specs.Event.{calls, sent_in}
use Rattle.lsp_replay.proofs.Following.{whose_read}
use Rattle.lsp_replay.proofs.Hearing.{not_tried, refused_as_call, refused_as_message}
use Rattle.lsp_replay.proofs.Hearing.{refused_leaves, taken_holds, taken_rule, taken_says}
use Rattle.lsp_replay.proofs.Hearing.{tried_as_call}
use Rattle.lsp_replay.proofs.events.Events.keep.Goals as goal

pub returns-in_err-admit-clause-rule : goal.returns-in_err-admit-clause-rule
returns-in_err-admit-clause-rule g c =
    let p = err_from_is_err_and c.from_residual.result c.from_residual.ensures.1 in
    let err = c.in_err-admit.ensures in
    rw p.1 (λ events event holds sound read.
    rw p.2 (refused_as_message c.args.self.now.docs.terms events event sound _ _
    (err.rule events event holds.sent sound read)
    (err.content c.args.self.now.docs.terms events)))

pub returns-in_err-admit-clause-tried : goal.returns-in_err-admit-clause-tried
returns-in_err-admit-clause-tried g c =
    let p = err_from_is_err_and c.from_residual.result c.from_residual.ensures.1 in
    rw p.1 (λ events event holds sound read.
    rw p.2 (not_tried c.args.self.now.docs.terms events event _ _
    (c.in_err-admit.ensures.rule events event holds.sent sound read)))

pub returns-in_err-admit-clause-err : goal.returns-in_err-admit-clause-err
returns-in_err-admit-clause-err g c =
    let p = err_from_is_err_and c.from_residual.result c.from_residual.ensures.1 in
    rw p.1 (λ events event holds sound read. record {
      sent = subst (λ (s : session.State). session.Stands s (sent_in events))
          (sym c.in_err-admit.ensures.err) holds.sent;
      called = holds.called;
    })

pub returns-in_err-took-clause-rule : goal.returns-in_err-took-clause-rule
returns-in_err-took-clause-rule g c =
    let from = c.from_residual-in_err-took in
    let p = err_from_is_err_and from.result from.ensures.1 in
    let fault = c.in_err-took.field-0.0 in
    let err = c.in_err-took.ensures in
    rw p.1 (λ events event holds sound read.
    rw p.2 (refused_as_call c.args.self.now.docs events holds.called event sound
    (c.in_ok-admit.ensures.ok events event holds.sent sound read).0 _ (c.call.ensures events event read) _ fault read.reads
    err.refuses (λ (lacks : fault ≡ Memory). err.memory (cc lacks))))

pub returns-in_err-took-clause-tried : goal.returns-in_err-took-clause-tried
returns-in_err-took-clause-tried g c =
    let from = c.from_residual-in_err-took in
    let p = err_from_is_err_and from.result from.ensures.1 in
    rw p.1 (λ events event holds sound read.
    rw p.2 (tried_as_call c.args.self.now.docs.terms events event _ (c.call.ensures events event read) _ _
    (c.in_err-took.ensures.tried (calls events) holds.called)))

pub returns-in_err-took-clause-err : goal.returns-in_err-took-clause-err
returns-in_err-took-clause-err g c =
    let from = c.from_residual-in_err-took in
    let p = err_from_is_err_and from.result from.ensures.1 in
    let err = c.in_err-took.ensures in
    rw p.1 (λ events event holds sound read.
    let admitted = c.in_ok-admit.ensures.ok events event holds.sent sound read in
    record {
      sent = refused_leaves c.args.self.now.docs events holds.called event sound admitted.0 _
          (c.call.ensures events event read) _ _ c.in_err-took.field-0.0 read.reads err.refuses admitted;
      called = subst (λ (d : docs.State). docs.Stands d (calls events)) (sym err.err) holds.called;
    })

pub returns-clause-ok : goal.returns-clause-ok
returns-clause-ok g c = λ events event holds sound read.
    let old = c.args.self.now.docs in
    let admitted = c.in_ok-admit.ensures.ok events event holds.sent sound read in
    let takes = c.in_ok-took.ensures.takes in
    let says = c.call.ensures events event read in
    record {
      accepted = taken_rule old events holds.called event sound admitted.0 _ says _ _ takes;
      holds = taken_holds old events holds.called event sound admitted.0 _ says _ _ takes _
          admitted;
      counted = λ all counts. c.add.ensures all event counts
          (whose_read _ event read.reads ∙ sym c.who.ensures);
      says = taken_says old events holds.called event sound admitted.0 _ says _ _ takes;
    }
