use Rattle.std.proofs.lemmas.Result.{err_from_is_err_and}
use Rattle.lsp_log.specs.Records.{record_view}
use Rattle.lsp_replay.proofs.Pulling.{end_taken, record_taken, refused_record, untaken}
use Rattle.lsp_replay.proofs.log_events.LogEvents.take.Goals as goal

pub returns-in_err-record-clause-answer : goal.returns-in_err-record-clause-answer
returns-in_err-record-clause-answer g c =
    let p = err_from_is_err_and c.from_residual.result c.from_residual.ensures.1 in
    rw (p.1, p.2) (λ limits start records given h.
    untaken limits start _ records given _ _ c.args.self.now _ _ (λ format is. is) h.stands
    (c.in_err-record.ensures.answer limits start records given h))

pub returns-in_err-push-in-Record-clause-answer : goal.returns-in_err-push-in-Record-clause-answer
returns-in_err-push-in-Record-clause-answer g c =
    let from = c.from_residual-in_err-push-in-Record in
    let p = err_from_is_err_and from.result from.ensures.1 in
    rw (p.1, p.2) (λ limits start records given h.
    let next = rw c.in-Record.is at (c.in_ok-record.ensures.answer limits start records given h) in
    untaken limits start _ records given _ _ c.args.self.now _ _ c.in_ok-record.ensures.format
    h.stands (refused_record limits start _ records given _ (record_view c.in-Record.record) next))

pub returns-in_ok-push-in-Record-clause-answer : goal.returns-in_ok-push-in-Record-clause-answer
returns-in_ok-push-in-Record-clause-answer g c = λ limits start records given h.
    let next = rw c.in-Record.is at (c.in_ok-record.ensures.answer limits start records given h) in
    record_taken limits start _ records given _ (record_view c.in-Record.record) next.same
    next.goes_on next.at (c.in_ok-push-in-Record.ensures.ok limits records given next.stands)

pub returns-in-End-clause-answer : goal.returns-in-End-clause-answer
returns-in-End-clause-answer g c = λ limits start records given h.
    end_taken limits start _ records given _ c.in-End.field-0
    (rw c.in-End.is at (c.in_ok-record.ensures.answer limits start records given h))
