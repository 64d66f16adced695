use Rattle.std.proofs.Common.{[], ◌∷◌, ◌++◌, refl, sym, ap, subst, ◌∙◌, append_assoc}
use Rattle.std.proofs.lemmas.Result.{err_from_is_err_and}
use Rattle.lsp_frame.specs.Bounds.{profile}
use Rattle.lsp_frame.specs.Sink.{Wrote}
use Rattle.lsp_replay.specs.Common.{after_failure, record_view, terms_of}
use Rattle.lsp_frame.proofs.Telling.{took_then}
use Rattle.lsp_frame.proofs.Writing.{wrote_then}
use Rattle.lsp_log.specs.Log.{Fits}
use Rattle.lsp_replay.specs.LogEvents.{flaw_of}
use Rattle.lsp_replay.proofs.Pulling.{known_record, refused_record}
use Rattle.lsp_verdict.proofs.Entries.{is_first, record_fits}
use Rattle.lsp_verdict.proofs.Outcomes.{judged_by}
use Rattle.lsp_verdict.specs.Upgraded.{upgraded}
use Rattle.lsp_judge.proofs.Finals.{closed_final}
use Rattle.lsp_judge.proofs.UpgradedLogs.{all_accepted, all_upgraded, broke, head_is, none_accepted}
use Rattle.lsp_judge.proofs.UpgradedLogs.{offended, one_more, one_written, refused_end, unwritten}
use Rattle.lsp_judge.proofs.upgrade.run_upgrade.Goals as goal

-- the first line was not written
pub returns-in_err-write_head_of : goal.returns-in_err-write_head_of
returns-in_err-write_head_of g c =
    let p = err_from_is_err_and c.from_residual.result c.from_residual.ensures.1 in
    let start = g.R.Source.told c.args.reader.now in
    let idle = c.new-log.ensures.idle start in
    let stopped = c.in_err-write_head_of.ensures in
    rw (p.1, p.2) (record {
      upgraded = unwritten _ _ [] (none_accepted _ _ idle.stands.range) start start _ _
          stopped.front stopped.back (sym head_is ∙ stopped.whole) stopped.took stopped.failures refl
          (is_first _ _ start start [] idle.same idle.at);
    })

-- the first entry
pub returns-in_err-next : goal.returns-in_err-next
returns-in_err-next g c =
    let from = c.from_residual-in_err-next in
    let p = err_from_is_err_and from.result from.ensures.1 in
    let start = g.R.Source.told c.args.reader.now in
    let idle = c.new-log.ensures.idle start in
    rw (p.1, p.2) (record {
      upgraded = broke _ _ [] (none_accepted _ _ idle.stands.range) start _ _ _ _
          (subst (Wrote _ _) head_is c.in_ok-write_head_of.ensures)
          (c.in_err-next.ensures.answer c.args.limits start [] [] idle);
    })

pub loop-next-init : goal.loop-next-init
loop-next-init g c =
    let start = g.R.Source.told c.args.reader.now in
    let idle = c.new-log.ensures.idle start in
    let read = c.in_ok-next.ensures in
    let new = c.new-events.ensures in
    record {
      records = [];
      early = λ none. refl;
      heard = (
        [],
        record {
          past = [];
          stands = rw read.streams idle.stands;
          has = record {
            read = tt;
            by = new.terms ∙ ap (terms_of c.args.limits)
                (judged_by _ _ _ c.unwrap_or-format.ensures c.format.ensures);
            follows = new.follows;
          };
        },
      );
      next_is = read.answer c.args.limits start [] [] idle;
      wrote = subst (Wrote _ _) head_is c.in_ok-write_head_of.ensures;
    }

-- the log ends
pub returns-in-End : goal.returns-in-End
returns-in-End g c =
    let u = rw c.in-End.is at c.loop-next.invariant in
    let told = c.in_ok-verdict-in-End.ensures u.heard.0 u.heard.1.has.follows in
    record {
      upgraded = all_upgraded _ _ u.records (all_accepted _ _ _ _ _ _ _ u.heard u.early) _ _ _ _
          u.heard.1.past u.wrote c.in-End.end _ u.next_is
          (λ w exact final. closed_final _ _ _ _ _ _ u.records u.heard.1.past u.heard.0
          u.heard.1.stands u.heard.1.has (flaw_of c.in-End.end) _ w told exact final);
    }

pub returns-in_err-verdict-in-End : goal.returns-in_err-verdict-in-End
returns-in_err-verdict-in-End g c =
    let u = rw c.in-End.is at c.loop-next.invariant in
    let from = c.from_residual-in_err-verdict-in-End in
    let p = err_from_is_err_and from.result from.ensures.1 in
    rw (p.1, p.2) (record {
      upgraded = refused_end _ _ u.records (all_accepted _ _ _ _ _ _ _ u.heard u.early) _ _ _ _
          u.heard.1.past u.wrote c.in-End.end u.next_is;
    })

-- memory was refused for the next record
pub returns-in_err-copy-in-Record : goal.returns-in_err-copy-in-Record
returns-in_err-copy-in-Record g c =
    let u = rw c.in-Record.is at c.loop-next.invariant in
    let from = c.from_residual-in_err-copy-in-Record in
    let p = err_from_is_err_and from.result from.ensures.1 in
    rw (p.1, p.2) (record {
      upgraded = broke _ _ u.records (all_accepted _ _ _ _ _ _ _ u.heard u.early) _ _ _ _ _
          u.wrote (refused_record _ _ _ u.records u.heard.1.past _ _ u.next_is);
    })

pub returns-in_err-answer-in-Err : goal.returns-in_err-answer-in-Err
returns-in_err-answer-in-Err g c =
    let u = rw c.in-Record.is at c.loop-next.invariant in
    let from = c.from_residual-in_err-answer-in-Err in
    let p = err_from_is_err_and from.result from.ensures.1 in
    rw (p.1, p.2) (record {
      upgraded = broke _ _ u.records (all_accepted _ _ _ _ _ _ _ u.heard u.early) _ _ _ _ _
          u.wrote (refused_record _ _ _ u.records u.heard.1.past _ _ u.next_is);
    })

-- an event of it offends
pub returns-in-Err : goal.returns-in-Err
returns-in-Err g c =
    let u = rw c.in-Record.is at c.loop-next.invariant in
    record {
      upgraded = offended _ _ u.records (all_accepted _ _ _ _ _ _ _ u.heard u.early) _ _ _ _ u.heard.1.past
          u.wrote (record_view c.in-Record.record) c.in-Err.ruling _ u.next_is
          c.in_ok-answer-in-Err.ensures.ok (c.in-Err.ensures.no _ _ u.records u.heard);
    }

-- it is written
pub write_record-requires : goal.write_record-requires
write_record-requires g c =
    let u = rw c.in-Record.is at c.loop-next.invariant in
    subst (Fits profile) (sym c.in_ok-copy-in-Record.ensures)
    (record_fits _ _ _ u.records (record_view c.in-Record.record) u.next_is.at)

pub returns-in_err-write_record-in-Ok : goal.returns-in_err-write_record-in-Ok
returns-in_err-write_record-in-Ok g c =
    let u = rw c.in-Record.is at c.loop-next.invariant in
    let from = c.from_residual-in_err-write_record-in-Ok in
    let p = err_from_is_err_and from.result from.ensures.1 in
    let stopped = c.in_err-write_record-in-Ok.ensures in
    let heard = c.in-Ok.ensures.ok _ _ u.records u.heard in
    rw (p.1, p.2) (record {
      upgraded = unwritten _ _ _ (all_accepted _ _ _ _ _ _ _ heard u.next_is.at.early) _ _ _ _
          (upgraded u.records ++ stopped.front) stopped.back
          (one_more u.records _ _ c.in_ok-copy-in-Record.ensures
          ∙ ap (λ w. upgraded u.records ++ w) stopped.whole
          ∙ sym (append_assoc (upgraded u.records) stopped.front stopped.back))
          (took_then _ _ _ _ _ u.wrote.took stopped.took)
          (stopped.failures ∙ ap after_failure u.wrote.failures) u.next_is.at.failures
          (is_first _ _ _ _ _ u.next_is.same u.next_is.at);
    })

-- the next entry
pub read-requires-in-loop-next : goal.read-requires-in-loop-next
read-requires-in-loop-next g c =
    let u = rw c.in-Record.is at c.loop-next.invariant in
    u.next_is.goes_on

pub returns-in_err-next-2 : goal.returns-in_err-next-2
returns-in_err-next-2 g c =
    let u = rw c.in-Record.is at c.loop-next.invariant in
    let from = c.from_residual-in_err-next-2 in
    let p = err_from_is_err_and from.result from.ensures.1 in
    let heard = c.in-Ok.ensures.ok _ _ u.records u.heard in
    let all = u.records ++ record_view c.in-Record.record ∷ [] in
    rw (p.1, p.2) (record {
      upgraded = broke _ _ all (all_accepted _ _ _ _ _ _ all heard u.next_is.at.early) _ _ _ _ _
          (subst (Wrote _ _) (sym (one_more u.records _ _ c.in_ok-copy-in-Record.ensures))
          (wrote_then _ _ _ _ _ u.wrote c.in_ok-write_record-in-Ok.ensures))
          (c.in_err-next-2.ensures.answer _ _ all heard.1.past (record {
            same = u.next_is.same;
            goes_on = u.next_is.goes_on;
            at = u.next_is.at;
            stands = heard.1.stands;
          }));
    })

pub loop-next-preserved : goal.loop-next-preserved
loop-next-preserved g c =
    let u = rw c.in-Record.is at c.loop-next.invariant in
    let heard = c.in-Ok.ensures.ok _ _ u.records u.heard in
    let all = u.records ++ record_view c.in-Record.record ∷ [] in
    let read = c.in_ok-next-2.ensures in
    one_written _ _ _ _ _ _ _ _ _ _ _ _ all (known_record _ u.records _ u.next_is.at.early) read.format
    read.streams heard
    (read.answer _ _ all heard.1.past (record {
      same = u.next_is.same;
      goes_on = u.next_is.goes_on;
      at = u.next_is.at;
      stands = heard.1.stands;
    }))
    (subst (Wrote _ _) (sym (one_more u.records _ _ c.in_ok-copy-in-Record.ensures))
    (wrote_then _ _ _ _ _ u.wrote c.in_ok-write_record-in-Ok.ensures))
