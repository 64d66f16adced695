-- The event of a log, among those that were given.
use Rattle.std.proofs.Common.{◌≡◌, ℕ, ◌+◌, ◌-◌, ◌<◌, ◌≤◌, List, [], ◌∷◌, ◌++◌, length, Option, Some}
use Rattle.std.proofs.Common.{None, Ok, Err, refl, sym, ap, subst, arith}
use Rattle.std.proofs.lemmas.List.{length_push}
use Rattle.std.proofs.lemmas.Option.{slice_get_past}
use Rattle.std.specs.Io.KnownBytes.{IsAtEnd}
use Rattle.lsp_replay.specs.Common.{Bounds, broken, content, Format, HasGiven, IsLogOf, OfRead}
use Rattle.lsp_replay.specs.Common.{Opens, ports, RunFault, show, Stopped, Told}
use Rattle.lsp_frame.specs.Sink.{Wrote}
use Rattle.lsp_log.specs.Log.{Record}
use Rattle.lsp_extract.specs.Event.{content_at, content_of, outcome_of, outcome_at, event_at, without}
use Rattle.lsp_extract.specs.Event.{BeginsEvent, GivesEvent, IsEvent, HasPassed}
use Rattle.lsp_verdict.specs.Runs.{BreaksOff}
use Rattle.lsp_replay.specs.LogEvents.{Ended, Gives, Reads, flaw_of}
use Rattle.lsp_verdict.specs.Given.{raw_view}
use Rattle.lsp_extract.specs.declared.event.EventOutcome.TheVariants.{FewerEvents}
use Rattle.lsp_replay.specs.declared.log_events.End.{End}
use Rattle.lsp_replay.specs.declared.log_events.End.TheVariants.{Sound, Bad}
use Rattle.lsp_replay.specs.declared.log_events.LogEvents.{LogEvents}
use Rattle.lsp_replay.specs.declared.log_events.Next.TheVariants as next
use Rattle.lsp_verdict.specs.declared.raw.Raw as code
use Rattle.lsp_verdict.specs.Placed.{Raw}
use Rattle.lsp_verdict.specs.declared.outcome.RunFault.TheVariants as faults
use Rattle.lsp_verdict.proofs.PlacedLemmas.{placed_whole}
use Rattle.lsp_verdict.proofs.RunsJudged.{read_map, unwritten_sink}
use Rattle.lsp_replay.proofs.Pulling.{log_of, reads_failures, reads_given}
use Rattle.lsp_frame.proofs.Telling.{took_nothing}
use Rattle.lsp_extract.proofs.Due.{due_begun, due_written}
use Rattle.lsp_extract.proofs.Seeking.Laws.{some_event}
use Rattle.lsp_extract.proofs.Seeking.Places.{at_place, still_at}

-- ---- a log without the event

-- reading broke off
pub not_found : (limits : Bounds) (start now sink : Told) (n : ℕ) (fault : RunFault)
    → BreaksOff limits start now fault → GivesEvent limits (ports start now sink sink) n (Err fault)
not_found limits start now sink n fault broke = record {
  writes = due_begun limits _ FewerEvents _ _ fault (
    [],
    took_nothing sink,
    read_map limits start now (λ log. Unit {0}) (λ log. BeginsEvent limits log n [])
        (λ log u. let due = some_event limits log n in (due.1, due.0, due.2)) broke.of_read,
  ) broke.failures (unwritten_sink fault _ _ broke.unwritten refl);
  read_fault = λ is. refl;
  memory = λ is. refl;
}

met_end : (end : End) (now : Told) (r_met : flaw_of end ≡ None → IsAtEnd now.bytes)
    → without (flaw_of end) ≡ FewerEvents → IsAtEnd now.bytes
met_end Sound now r_met fewer = r_met refl
met_end (Bad number fault) now r_met fewer = absurd (cc fewer)

-- the log ends before it
fewer_found : (limits : Bounds) (format : Option Format) (e : LogEvents) (start now sink : Told)
    (records : List Record) (given : List Raw) (end : End) (n : ℕ)
    → Ended limits format e start now records given end → length given < n
    → GivesEvent limits (ports start now sink sink) n (Ok (without (flaw_of end)))
fewer_found limits format e start now sink records given end n h before =
    let past : length given ≤ n - 1 = omega (arith, before) in
    let none : event_at n given ≡ None = slice_get_past given (n - 1) past in
    record {
      writes = due_written limits _ FewerEvents _ _ (without (flaw_of end)) (
        [],
        took_nothing sink,
        read_map limits start now (IsLogOf e.log limits records (flaw_of end))
            (λ log. IsEvent limits log n [] (without (flaw_of end)))
            (λ log whole. record {
              format = e.log.format;
              records = records;
              log_fault = flaw_of end;
              raws = given;
              is_log = log_of limits e.log records (flaw_of end) log whole;
              placed = placed_whole limits records given [] refl h.reads.stands.placed;
              written = ap content_at (sym none);
              ends = ap (λ (o : Option Raw). outcome_at o (flaw_of end)) (sym none);
            }) h.ends.of_read,
      ) (met_end end now h.ends.met) h.ends.failures refl;
      read_fault = λ is. absurd (cc is);
      memory = λ is. absurd (cc is);
    }

-- ---- the event was given

-- an event that is no end
not_fewer : (raw : Raw) → outcome_of raw ≡ FewerEvents → ⊥
not_fewer (content side bytes) e = absurd (cc e)
not_fewer (broken side rule) e = absurd (cc e)
not_fewer (show n uri text) e = absurd (cc e)

module _ (limits : Bounds) (format : Option Format) (e : LogEvents) (start now sink new : Told)
    (records : List Record) (given due : List Raw) (raw : Raw)
    (h : Reads limits format e start now records (given ++ raw ∷ []) due) (n : ℕ)
    (last : length given + 1 ≡ n) where
  is_event : OfRead limits start now (λ log. IsEvent limits log n (content_of raw) (outcome_of raw))
  is_event = read_map limits start now (HasGiven limits format records (given ++ raw ∷ []))
      (λ log. IsEvent limits log n (content_of raw) (outcome_of raw))
      (λ log has.
      let place : n - 1 ≡ length given = omega (arith, last) in
      let at : event_at n ((given ++ raw ∷ []) ++ has.later) ≡ Some raw =
      still_at (given ++ raw ∷ []) has.later raw (n - 1)
      (at_place given [] raw (n - 1) place) in
      record {
        format = format;
        records = has.records;
        log_fault = has.log_fault;
        raws = (given ++ raw ∷ []) ++ has.later;
        is_log = has.is_log;
        placed = has.placed;
        written = ap content_at (sym at);
        ends = ap (λ (o : Option Raw). outcome_at o has.log_fault) (sym at);
      }) (reads_given limits format e start now records (given ++ raw ∷ []) due h)

  unfailed : now.failures ≡ start.failures
  unfailed = reads_failures limits format e start now records (given ++ raw ∷ []) due h

  event_given : Wrote sink new (content_of raw)
      → GivesEvent limits (ports start now sink new) n (Ok (outcome_of raw))
  event_given wrote = record {
    writes = due_written limits _ FewerEvents _ _ (outcome_of raw)
        (content_of raw, wrote.took, is_event) (λ fewer. absurd (not_fewer raw fewer)) unfailed
        wrote.failures;
    read_fault = λ is. absurd (cc is);
    memory = λ is. absurd (cc is);
  }

  -- what it holds was not written whole
  event_cut : Stopped sink new (content_of raw)
      → GivesEvent limits (ports start now sink new) n (Err faults.Write)
  event_cut stopped = record {
    writes = due_begun limits _ FewerEvents _ _ faults.Write (
      stopped.front,
      stopped.took,
      read_map limits start now (λ log. IsEvent limits log n (content_of raw) (outcome_of raw))
          (λ log. BeginsEvent limits log n stopped.front)
          (λ log is. (
            outcome_of raw,
            stopped.back,
            subst (λ (w : List ℕ). IsEvent limits log n w (outcome_of raw)) stopped.whole is,
          )) is_event,
    ) unfailed stopped.failures;
    read_fault = λ is. absurd (cc is);
    memory = λ is. absurd (cc is);
  }

-- ---- one event more

module _ (limits : Bounds) (old new : LogEvents) (start before now : Told) (n left : ℕ)
    (ahead : 0 < left) (p : HasPassed limits old start before n left) where
  pub broke_off : (sink : Told) (fault : RunFault)
      → Gives limits p.format new start now p.records p.given (Err fault)
      → GivesEvent limits (ports start now sink sink) n (Err fault)
  broke_off sink fault (more, broke) = not_found limits start now sink n fault (record {
    of_read = read_map limits start now (HasGiven limits p.format (p.records ++ more) p.given)
        (λ log. Unit {0}) (λ log has. tt) broke.of_read;
    failures = broke.failures;
    unwritten = broke.unwritten;
  })

  pub log_ends : (sink : Told) (end : End)
      → Gives limits p.format new start now p.records p.given (Ok (next.End end))
      → GivesEvent limits (ports start now sink sink) n (Ok (without (flaw_of end)))
  log_ends sink end (more, ends) =
      fewer_found limits p.format new start now sink (p.records ++ more) p.given end n ends
      (omega (arith, ahead, p.count))

  -- the last of those to come
  pub last_given : (sink written : Told) (raw : code.Raw) → left ≡ 1
      → Gives limits p.format new start now p.records p.given (Ok (next.Event raw))
      → Wrote sink written (content_of (raw_view raw))
      → GivesEvent limits (ports start now sink written) n (Ok (outcome_of (raw_view raw)))
  last_given sink written raw last (more, due, reads, lent) wrote =
      event_given limits p.format new start now sink written (p.records ++ more) p.given due
      (raw_view raw) reads n (omega (arith, last, p.count)) wrote

  pub last_cut : (sink written : Told) (raw : code.Raw) → left ≡ 1
      → Gives limits p.format new start now p.records p.given (Ok (next.Event raw))
      → Stopped sink written (content_of (raw_view raw))
      → GivesEvent limits (ports start now sink written) n (Err faults.Write)
  last_cut sink written raw last (more, due, reads, lent) stopped =
      event_cut limits p.format new start now sink written (p.records ++ more) p.given due
      (raw_view raw) reads n (omega (arith, last, p.count)) stopped

  -- one of those before
  pub one_passed : (raw : code.Raw)
      → Gives limits p.format new start now p.records p.given (Ok (next.Event raw))
      → HasPassed limits new start now n (left - 1)
  one_passed raw (more, due, reads, lent) = record {
    format = p.format;
    records = p.records ++ more;
    given = p.given ++ raw_view raw ∷ [];
    due = due;
    reads = reads;
    count = omega (arith, ahead, p.count, length_push p.given (raw_view raw));
  }

-- ---- the run

pub none_passed : (limits : Bounds) (e : LogEvents) (start now : Told) (n : ℕ)
    → Opens limits start now e → HasPassed limits e start now n n
none_passed limits e start now n (records, due, reads) = record {
  format = e.log.format;
  records = records;
  given = [];
  due = due;
  reads = reads;
  count = omega arith;
}
