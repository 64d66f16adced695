use Rattle.std.proofs.Common.{subst}
use Rattle.std.proofs.lemmas.Result.{err_from_is_err_and}
use Rattle.lsp_frame.specs.Sink.{Wrote}
use Rattle.lsp_replay.specs.Common.{first_line, Format, Stopped}
use Rattle.lsp_verdict.proofs.Outcomes.{judged_by}
use Rattle.lsp_extract.proofs.Forming.Logs.{head_cut, none_read}
use Rattle.lsp_extract.proofs.normal.run_normal.Goals as goal

pub write_events-requires : goal.write_events-requires
write_events-requires g c = (g.R.Source.told c.args.reader.now, c.in_ok-events.ensures.ok)

pub returns-in_err-events : goal.returns-in_err-events
returns-in_err-events g c =
    let p = err_from_is_err_and c.from_residual.result c.from_residual.ensures.1 in
    rw (p.1, p.2) (record {
      normalized = none_read c.args.limits _ _ _ _ c.in_err-events.ensures.err;
    })

pub returns-in_err-write_head_of : goal.returns-in_err-write_head_of
returns-in_err-write_head_of g c =
    let from = c.from_residual-in_err-write_head_of in
    let p = err_from_is_err_and from.result from.ensures.1 in
    let sink = g.W.Sink.told c.args.writer.now in
    let new = g.W.Sink.told c.write_head_of.new.writer in
    let events = c.in_ok-events.events in
    let format = judged_by _ _ _ c.unwrap_or.ensures c.format.ensures in
    let stopped = subst (λ (f : Format). Stopped sink new (first_line f)) format
    c.in_err-write_head_of.ensures in
    rw (p.1, p.2) (record {
      normalized = head_cut c.args.limits events _ _ sink new c.in_ok-events.ensures.ok stopped;
    })

pub returns : goal.returns
returns g c =
    let sink = g.W.Sink.told c.args.writer.now in
    let mid = g.W.Sink.told c.write_head_of.new.writer in
    let events = c.in_ok-events.events in
    let format = judged_by _ _ _ c.unwrap_or.ensures c.format.ensures in
    let head = subst (λ (f : Format). Wrote sink mid (first_line f)) format
    c.in_ok-write_head_of.ensures in
    record { normalized = c.write_events.ensures _ sink c.in_ok-events.ensures.ok head }
