use Rattle.std.proofs.Common.{Ok, Err, ◌++◌, refl}
use Rattle.std.proofs.lemmas.Result.{err_from_is_err_and}
use Rattle.lsp_replay.specs.declared.log_events.Step.TheVariants.{Event, End}
use Rattle.lsp_replay.proofs.Pulling.{broke_on, end_found, event_found, finds_more, goes_on}
use Rattle.lsp_replay.proofs.Pulling.{none_left, reads_on, took, took_on}
use Rattle.lsp_replay.proofs.log_events.LogEvents.find.Goals as goal

pub loop-due-init : goal.loop-due-init
loop-due-init g c = λ limits format start records given due h.
    reads_on limits format c.args.self.now start _ records given due h

pub returns-in-Some-clause-answer : goal.returns-in-Some-clause-answer
returns-in-Some-clause-answer g c = λ limits format start records given due h.
    let old = c.loop-due.self in
    let new = record old { streams = c.advance.new.self } in
    let on = c.loop-due.invariant limits format start records given due h in
    finds_more limits format new start _ records on.0 given (Ok (Event c.in-Some.due))
    (event_found limits format start _ (records ++ on.0) given on.1 old new refl refl on.2
    c.in-Some.due (rw c.in-Some.is at c.advance.ensures))

pub returns-in-Some-end-clause-answer : goal.returns-in-Some-end-clause-answer
returns-in-Some-end-clause-answer g c = λ limits format start records given due h.
    let old = c.loop-due.self in
    let new = record old { streams = c.advance.new.self } in
    let on = c.loop-due.invariant limits format start records given due h in
    let left = none_left limits format start _ (records ++ on.0) given on.1 old new refl refl on.2
    (rw c.in_default.is at c.advance.ensures) in
    finds_more limits format new start _ records on.0 given (Ok (End c.in-Some-end.end))
    (end_found limits format start _ (records ++ on.0) given new c.in-Some-end.end c.in-Some-end.is
    left)

pub loop-due-preserved : goal.loop-due-preserved
loop-due-preserved g c = λ limits format start records given due h.
    let old = c.loop-due.self in
    let new = record old { streams = c.advance.new.self } in
    let on = c.loop-due.invariant limits format start records given due h in
    let left = none_left limits format start _ (records ++ on.0) given on.1 old new refl refl on.2
    (rw c.in_default.is at c.advance.ensures) in
    let idle = goes_on limits format start _ (records ++ on.0) given new c.in_default-end.is left in
    let takes = c.in_ok-take.ensures.answer limits start (records ++ on.0) given idle.0 in
    took_on limits format c.take.new.self start _ records on.0 given
    (took limits format start _ (records ++ on.0) given new c.take.new.self
    (Ok c.in_ok-take.field-0) left.format_is idle.1 c.in_ok-take.ensures.format takes)

pub returns-in_err-take-clause-answer : goal.returns-in_err-take-clause-answer
returns-in_err-take-clause-answer g c =
    let p = err_from_is_err_and c.from_residual.result c.from_residual.ensures.1 in
    rw (p.1, p.2) (λ limits format start records given due h.
    let old = c.loop-due.self in
    let new = record old { streams = c.advance.new.self } in
    let on = c.loop-due.invariant limits format start records given due h in
    let left = none_left limits format start _ (records ++ on.0) given on.1 old new refl refl on.2
    (rw c.in_default.is at c.advance.ensures) in
    let idle = goes_on limits format start _ (records ++ on.0) given new c.in_default-end.is left in
    let takes = c.in_err-take.ensures.answer limits start (records ++ on.0) given idle.0 in
    broke_on limits format c.take.new.self start _ records on.0 given c.in_err-take.field-0.0
    (took limits format start _ (records ++ on.0) given new c.take.new.self
    (Err c.in_err-take.field-0.0) left.format_is idle.1 c.in_err-take.ensures.format takes))
