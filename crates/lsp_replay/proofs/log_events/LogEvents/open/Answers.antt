use Rattle.std.proofs.Common.{[]}
use Rattle.std.proofs.lemmas.Result.{err_from_is_err_and}
use Rattle.lsp_replay.proofs.log_events.LogEvents.open.Goals as goal

pub returns-in_err-take-clause-err : goal.returns-in_err-take-clause-err
returns-in_err-take-clause-err g c =
    let p = err_from_is_err_and c.from_residual.result c.from_residual.ensures.1 in
    let start = g.R.Source.told c.args.reader.now in
    rw (p.1, p.2) (c.in_err-take.ensures.answer c.args.limits start [] []
    (c.new-events.ensures.idle start)).0

pub returns-clause-ok : goal.returns-clause-ok
returns-clause-ok g c =
    let start = g.R.Source.told c.args.reader.now in
    c.in_ok-take.ensures.answer c.args.limits start [] [] (c.new-events.ensures.idle start)
