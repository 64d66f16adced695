use Rattle.std.proofs.Common.{◌++◌}
use Rattle.std.proofs.lemmas.Result.{err_from_is_err_and}
use Rattle.lsp_extract.proofs.Forming.Logs.{broke_off, end_formed, fault_ends, fewer, none_formed}
use Rattle.lsp_extract.proofs.Forming.Logs.{one_formed, part_written}
use Rattle.lsp_extract.proofs.normal.write_events.Goals as goal

pub loop-fault-init : goal.loop-fault-init
loop-fault-init g c = λ start opens.
    none_formed c.args.limits c.args.events.now _ start _ _ opens c.new-counts.ensures

pub returns-in-Err : goal.returns-in-Err
returns-in-Err g c = λ start sink opens head.
    let so = c.loop-fault.invariant start opens in
    let next = rw c.in-Err.is at c.next.follows.holds-at-none in
    let gives = next c.args.limits c.args.events.now.log.format start so.records so.given so.due
    so.reads in
    broke_off c.args.limits c.args.events.now.log.format c.loop-fault.events
    c.next.follows.lender-at-none c.loop-fault.counts start _ _ _ _ so sink head c.in-Err.fault
    gives

pub returns-in-Ok-End : goal.returns-in-Ok-End
returns-in-Ok-End g c = λ start sink opens head.
    let so = c.loop-fault.invariant start opens in
    let next = rw (c.in-Ok-End.is, c.in-Ok-End.field-0-is) at c.next.follows.holds-at-none in
    let gives = next c.args.limits c.args.events.now.log.format start so.records so.given so.due
    so.reads in
    end_formed c.args.limits c.args.events.now.log.format c.loop-fault.events
    c.next.follows.lender-at-none c.loop-fault.counts start _ _ _ _ so sink head c.in-Ok-End.end
    c.outcome_at.result gives
    (c.outcome_at.ensures c.args.limits (so.records ++ gives.0) so.given gives.1.reads.stands
    so.counted so.sound)

pub returns-in_err-outcome-in-Ok-Event : goal.returns-in_err-outcome-in-Ok-Event
returns-in_err-outcome-in-Ok-Event g c =
    let p = err_from_is_err_and c.from_residual.result c.from_residual.ensures.1 in
    let inv = c.loop-fault.invariant in
    let next = rw (c.in-Ok-Event.is, c.in-Ok-Event.field-0-is) at c.next.follows.holds-at-none in
    rw (p.1, p.2) (λ start sink opens head.
    let so = inv start opens in
    let gives = next c.args.limits c.args.events.now.log.format start so.records so.given so.due
    so.reads in
    part_written c.args.limits c.args.events.now.log.format c.loop-fault.events
    c.next.follows.lender-at-none c.loop-fault.counts start _ _ _ _ so sink head
    c.in-Ok-Event.raw c.write_event.new.counts _ c.in_err-outcome-in-Ok-Event.field-0.0 _
    c.chunk-size.ensures.value gives
    (c.in_err-outcome-in-Ok-Event.ensures so.given so.counted))

pub returns-in-Some : goal.returns-in-Some
returns-in-Some g c = λ start sink opens head.
    let inv = c.loop-fault.invariant in
    let so = inv start opens in
    let next = rw (c.in-Ok-Event.is, c.in-Ok-Event.field-0-is) at c.next.follows.holds-at-none in
    let gives = next c.args.limits c.args.events.now.log.format start so.records so.given so.due
    so.reads in
    let writes = rw c.in-Some.is at (c.in_ok-outcome-in-Ok-Event.ensures so.given
    so.counted) in
    fault_ends c.args.limits c.args.events.now.log.format c.loop-fault.events
    c.next.follows.lender-at-none c.loop-fault.counts start _ _ _ _ so sink head
    c.in-Ok-Event.raw c.write_event.new.counts c.args.limits.chunk c.in-Some.outcome _ gives
    writes

pub loop-fault-preserved : goal.loop-fault-preserved
loop-fault-preserved g c =
    let next = rw (c.in-Ok-Event.is, c.in-Ok-Event.field-0-is) at c.next.follows.holds-at-none in
    λ start opens.
    let so = c.loop-fault.invariant start opens in
    let gives = next c.args.limits c.args.events.now.log.format start so.records so.given so.due
    so.reads in
    one_formed c.args.limits c.args.events.now.log.format c.loop-fault.events
    c.next.follows.lender-at-none c.loop-fault.counts start _ _ _ _ so c.in-Ok-Event.raw _ _ _
    c.chunk-size.ensures.value gives
    (rw c.in_default.is at (c.in_ok-outcome-in-Ok-Event.ensures so.given so.counted))

pub loop-fault-smaller : goal.loop-fault-smaller
loop-fault-smaller g c =
    let inv = c.loop-fault.invariant in
    let so = inv c.requires.0 c.requires.1 in
    let next = rw (c.in-Ok-Event.is, c.in-Ok-Event.field-0-is) at c.next.follows.holds-at-none in
    let gives = next c.args.limits c.args.events.now.log.format c.requires.0 so.records so.given
    so.due so.reads in
    fewer c.args.limits c.args.events.now.log.format c.loop-fault.events
    c.next.follows.lender-at-none c.loop-fault.counts c.requires.0 _ _ _ _ so c.in-Ok-Event.raw
    _ _ _ gives
    (rw c.in_default.is at (c.in_ok-outcome-in-Ok-Event.ensures so.given so.counted))
