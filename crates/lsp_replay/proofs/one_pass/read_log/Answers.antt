use Rattle.std.proofs.Common.{◌∙◌, refl}
use Rattle.std.proofs.lemmas.Result.{err_from_is_err_and}
use Rattle.lsp_replay.proofs.LastEvents.{end_all}
use Rattle.lsp_replay.proofs.Passing.{broke_next, goes_fewer, goes_on, goes_stop, goes_wrong}
use Rattle.lsp_replay.proofs.Passing.{passing_first}
use Rattle.lsp_replay.proofs.one_pass.read_log.Goals as goal

pub loop-fault-init : goal.loop-fault-init
loop-fault-init g c = (
  refl,
  λ start opens. passing_first _ _ _ _ _ _ _ start _ _ opens c.requires.stood c.requires.begins,
)

pub returns-in-Err : goal.returns-in-Err
returns-in-Err g c = λ start opens.
    let here = c.loop-fault.invariant.1 start opens in
    let told = rw c.in-Err.is at c.next.follows.holds-at-none in
    broke_next _ g.A.Account.run _ _ _ c.loop-fault.reading.log _ _ _ start _ _ _ here
    c.next.follows.lender-at-none _ c.in-Err.fault told

pub returns-in-Ok-End : goal.returns-in-Ok-End
returns-in-Ok-End g c = λ start opens.
    let here = c.loop-fault.invariant.1 start opens in
    let told = rw (c.in-Ok-End.is, c.in-Ok-End.field-0-is) at c.next.follows.holds-at-none in
    end_all _ g.A.Account.run _ _ _ c.loop-fault.reading.log _ _ _ start _ _ _ here
    c.next.follows.lender-at-none _ c.in-Ok-End.end told _ c.loop-fault.invariant.0
    c.close.result _ c.close.ensures

pub returns-in_err-tell-in-Ok-Event : goal.returns-in_err-tell-in-Ok-Event
returns-in_err-tell-in-Ok-Event g c = λ start opens.
    let here = c.loop-fault.invariant.1 start opens in
    let told = rw (c.in-Ok-Event.is, c.in-Ok-Event.field-0-is) at c.next.follows.holds-at-none in
    let p = err_from_is_err_and c.from_residual.result c.from_residual.ensures.1 in
    rw (p.1, p.2) (goes_wrong _ g.A.Account.run _ _ _ c.loop-fault.reading.log _ _ _ start _ _ _
    here c.next.follows.lender-at-none _ c.in-Ok-Event.raw told
    (g.A.Account.stands c.tell.new.account) c.tell.new.held.session c.tell.new.held.docs
    c.tell.new.held.counts _ _ c.loop-fault.invariant.0 _ c.in_err-tell-in-Ok-Event.ensures.steps)

pub loop-fault-smaller : goal.loop-fault-smaller
loop-fault-smaller g c =
    let (start, opens) = c.requires.opens in
    let here = c.loop-fault.invariant.1 start opens in
    let told = rw (c.in-Ok-Event.is, c.in-Ok-Event.field-0-is) at c.next.follows.holds-at-none in
    let steps = rw c.in-GoOn.is at c.in_ok-tell-in-Ok-Event.ensures.steps in
    goes_fewer _ g.A.Account.run _ _ _ c.loop-fault.reading.log _ _ _ start _ _ _ here
    c.next.follows.lender-at-none _ c.in-Ok-Event.raw told (g.A.Account.stands c.tell.new.account)
    _ _ _ _ _ c.loop-fault.invariant.0 steps

pub loop-fault-preserved : goal.loop-fault-preserved
loop-fault-preserved g c = (
  c.tell.ensures.asked ∙ c.loop-fault.invariant.0,
  λ start opens.
      let here = c.loop-fault.invariant.1 start opens in
      let told = rw (c.in-Ok-Event.is, c.in-Ok-Event.field-0-is) at
      c.next.follows.holds-at-none in
      let steps = rw c.in-GoOn.is at c.in_ok-tell-in-Ok-Event.ensures.steps in
      goes_on _ g.A.Account.run _ _ _ c.loop-fault.reading.log _ _ _ start _ _ _ here
      c.next.follows.lender-at-none _ c.in-Ok-Event.raw told
      (g.A.Account.stands c.tell.new.account) _ _ _ _ _ c.loop-fault.invariant.0 steps,
)

pub returns-in-Stop : goal.returns-in-Stop
returns-in-Stop g c = λ start opens.
    let here = c.loop-fault.invariant.1 start opens in
    let told = rw (c.in-Ok-Event.is, c.in-Ok-Event.field-0-is) at c.next.follows.holds-at-none in
    let steps = rw c.in-Stop.is at c.in_ok-tell-in-Ok-Event.ensures.steps in
    rw c.into_inner.ensures
    (goes_stop _ g.A.Account.run _ _ _ c.loop-fault.reading.log _ _ _ start _ _ _ here
    c.next.follows.lender-at-none _ c.in-Ok-Event.raw told
    (g.A.Account.stands c.tell.new.account) _ _ _ _ _ c.loop-fault.invariant.0
    c.in-Stop.outcome steps)
