use Rattle.std.proofs.Common.{◌≡◌, arith, refl}
use Rattle.std.proofs.lemmas.Result.{err_from_is_err_and}
use Rattle.lsp_extract.proofs.Seeking.Logs.{broke_off, last_cut, last_given, log_ends, one_passed}
use Rattle.lsp_extract.proofs.event.write_nth.Goals as goal

pub loop-fault-init : goal.loop-fault-init
loop-fault-init g c = record {
  ahead = c.requires;
  sink = refl;
  passed = λ limits start n h. h;
}

pub returns-in-Err : goal.returns-in-Err
returns-in-Err g c = λ limits start n h.
    let inv = c.loop-fault.invariant in
    let p = inv.passed limits start n h in
    let next = rw c.in-Err.is at c.next.follows.holds-at-none in
    rw inv.sink
    (broke_off limits c.loop-fault.events c.next.follows.lender-at-none start _ _ n
    c.loop-fault.left inv.ahead p _ c.in-Err.fault
    (next limits p.format start p.records p.given p.due p.reads))

pub returns-in-Ok-End : goal.returns-in-Ok-End
returns-in-Ok-End g c = λ limits start n h.
    let inv = c.loop-fault.invariant in
    let p = inv.passed limits start n h in
    let next = rw (c.in-Ok-End.is, c.in-Ok-End.field-0-is) at c.next.follows.holds-at-none in
    rw (c.outcome_at.ensures, inv.sink)
    (log_ends limits c.loop-fault.events c.next.follows.lender-at-none start _ _ n
    c.loop-fault.left inv.ahead p _ c.in-Ok-End.end
    (next limits p.format start p.records p.given p.due p.reads))

pub returns-then-left-eq0 : goal.returns-then-left-eq0
returns-then-left-eq0 g c = λ limits start n h.
    let inv = c.loop-fault.invariant in
    let p = inv.passed limits start n h in
    let next = rw (c.in-Ok-Event.is, c.in-Ok-Event.field-0-is) at c.next.follows.holds-at-none in
    let last : c.loop-fault.left ≡ 1 = omega (arith, inv.ahead, c.if-left-eq0.true) in
    rw c.outcome_of.ensures
    (last_given limits c.loop-fault.events c.next.follows.lender-at-none start _ _ n
    c.loop-fault.left inv.ahead p _ _ c.in-Ok-Event.raw last
    (next limits p.format start p.records p.given p.due p.reads)
    (rw (c.held_by.ensures, inv.sink) at c.in_ok-put_all-in-Ok-Event.ensures))

pub returns-in_err-put_all-in-Ok-Event : goal.returns-in_err-put_all-in-Ok-Event
returns-in_err-put_all-in-Ok-Event g c =
    let inv = c.loop-fault.invariant in
    let p = err_from_is_err_and c.from_residual.result c.from_residual.ensures.1 in
    let next = rw (c.in-Ok-Event.is, c.in-Ok-Event.field-0-is) at c.next.follows.holds-at-none in
    let last : c.loop-fault.left ≡ 1 = omega (arith, inv.ahead, c.if-left-eq0.true) in
    rw (p.1, p.2) (λ limits start n h.
    let p = inv.passed limits start n h in
    last_cut limits c.loop-fault.events c.next.follows.lender-at-none start _ _ n
    c.loop-fault.left inv.ahead p _ _ c.in-Ok-Event.raw last
    (next limits p.format start p.records p.given p.due p.reads)
    (rw (c.held_by.ensures, inv.sink) at c.in_err-put_all-in-Ok-Event.ensures))

pub loop-fault-preserved : goal.loop-fault-preserved
loop-fault-preserved g c =
    let inv = c.loop-fault.invariant in
    let next = rw (c.in-Ok-Event.is, c.in-Ok-Event.field-0-is) at c.next.follows.holds-at-none in
    record {
      ahead = omega (arith, inv.ahead, c.if-left-eq0.false);
      sink = inv.sink;
      passed = λ limits start n h.
          let p = inv.passed limits start n h in
          one_passed limits c.loop-fault.events c.next.follows.lender-at-none start _ _ n
          c.loop-fault.left inv.ahead p c.in-Ok-Event.raw
          (next limits p.format start p.records p.given p.due p.reads);
    }
