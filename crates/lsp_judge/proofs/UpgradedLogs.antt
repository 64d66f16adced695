-- The records of a log, written in format 2 as they are accepted.
use Rattle.std.proofs.Common.{◌≡◌, ℕ, List, [], ◌∷◌, ◌++◌, Option, Some, None, IsSome, Ok, Err}
use Rattle.std.proofs.Common.{refl, sym, ap, subst, ◌∙◌, append_assoc, append-nil}
use Rattle.std.specs.List.{flat_map}
use Rattle.lsp_replay.specs.Common.{after_failure, as_given, Bounds, Counts, first_line, Format}
use Rattle.lsp_replay.specs.Common.{format_or_one, IsFinal, IsInRange, IsLog, IsLogOf, IsVerdict}
use Rattle.lsp_replay.specs.Common.{log_terms, LogCode, Offends, OfRead, ports, RunFault, spelling}
use Rattle.lsp_replay.specs.Common.{Told, Took, verdict_view}
use Rattle.lsp_frame.specs.Sink.{Wrote}
use Rattle.lsp_frame.specs.declared.format.Format.TheVariants.{Two}
use Rattle.lsp_session.specs.State as session
use Rattle.lsp_docs.specs.State as docs
use Rattle.lsp_log.specs.Log.{Record}
use Rattle.lsp_log.specs.Reader.{KeepsFormat}
use Rattle.lsp_replay.specs.LogEvents.{Ended, IsIdle, IsNext, flaw_of}
use Rattle.lsp_replay.specs.Streams as frames
use Rattle.lsp_replay.specs.declared.log_events.End.{End}
use Rattle.lsp_replay.specs.declared.log_events.Entry.{Entry}
use Rattle.lsp_replay.specs.declared.log_events.LogEvents.{LogEvents}
use Rattle.lsp_replay.proofs.Pulling.{first_format, known_record, log_of}
use Rattle.lsp_verdict.specs.Runs as entries
use Rattle.lsp_verdict.specs.Runs.{HasFirst, IsKnown}
use Rattle.lsp_verdict.specs.Placed.{Raw}
use Rattle.lsp_verdict.specs.Upgraded.{upgraded, AreAccepted, HasAccepted, IsUpgraded}
use Rattle.lsp_verdict.specs.Upgraded.{BeginsUpgraded}
use Rattle.lsp_verdict.specs.Verdict.{Verdict}
use Rattle.lsp_verdict.specs.declared.outcome.Outcome.TheVariants.{Judged}
use Rattle.lsp_verdict.specs.declared.outcome.RunFault.TheVariants as faults
use Rattle.lsp_verdict.specs.declared.verdict.Verdict as code
use Rattle.lsp_verdict.proofs.Entries.{is_first}
use Rattle.lsp_verdict.proofs.ExactCounts.{exact}
use Rattle.lsp_verdict.proofs.Logs.{some_final}
use Rattle.lsp_verdict.proofs.Outcomes.{offends_final}
use Rattle.lsp_verdict.proofs.RunsJudged.{read_map, judged_not, judges, unwritten_sink}
use Rattle.lsp_verdict.proofs.Upgrading.{accepted_on, accepted_here, accepted_all, upgraded_more}
use Rattle.lsp_verdict.proofs.Upgrading.{accepted_none}
use Rattle.lsp_judge.specs.Standing.{AreHeard, HasHeard, verdict_in, Rules}
use Rattle.lsp_judge.specs.ShownLog.{UpgradesLog}
use Rattle.lsp_judge.specs.declared.ruling.Ruling.{Ruling}
use Rattle.lsp_judge.proofs.Records.{accepted, rules_offence}

-- a log of these records has a verdict, and these records
abbrev whole_of : (limits : Bounds) (log : List ℕ) (format : Option Format)
    (records : List Record) (flaw : Option (ℕ × LogCode)) → IsLog limits log format records flaw
    → (v : Verdict) × IsVerdict limits log v
whole_of limits log format records flaw is_log =
    let final = some_final limits (format_or_one format) records flaw in (
      final.0,
      record {
        format = format;
        records = records;
        fault = flaw;
        is_log = is_log;
        final = final.1;
      },
    )

pub head_is : first_line Two ≡ upgraded []
head_is = sym (append-nil (first_line Two))

-- a copy of one more record is written
pub one_more : (records : List Record) (next copy : Record) → copy ≡ next
    → upgraded (records ++ next ∷ []) ≡ upgraded records ++ spelling copy
one_more records next copy is = upgraded_more records (next ∷ [])
    ∙ ap (λ w. upgraded records ++ w) (append-nil (spelling next) ∙ ap spelling (sym is))

-- ---- records that were accepted

-- these were, of a log of whose format so much is known
pub record Accepted (limits : Bounds) (known : Option Format) (records : List Record) : Type 0 where
  pub range : IsInRange limits
  pub keeps : AreAccepted limits (format_or_one known) records
  pub early : known ≡ None → records ≡ []

pub none_accepted : (limits : Bounds) (known : Option Format) → IsInRange limits
    → Accepted limits known []
none_accepted limits known range = record {
  range = range;
  keeps = accepted_none limits (format_or_one known);
  early = λ none. refl;
}

pub all_accepted : (limits : Bounds) (known : Option Format) (s : frames.State) (m : session.State)
    (d : docs.State) (c : Counts) (records : List Record)
    → AreHeard limits (format_or_one known) s m d c records → (known ≡ None → records ≡ [])
    → Accepted limits known records
all_accepted limits known s m d c records heard early = record {
  range = heard.1.stands.range;
  keeps = accepted limits (format_or_one known) s m d c records heard;
  early = early;
}

keeps_known : (limits : Bounds) (known format : Option Format) (records : List Record)
    → IsKnown known format → Accepted limits known records
    → AreAccepted limits (format_or_one format) records
keeps_known limits None format records is a =
    subst (AreAccepted limits (format_or_one format)) (sym (a.early refl))
    (accepted_none limits (format_or_one format))
keeps_known limits (Some known) format records is a =
    subst (λ (o : Option Format). AreAccepted limits (format_or_one o) records) (sym is) a.keeps

module _ (limits : Bounds) (known : Option Format) (records : List Record)
    (a : Accepted limits known records) where
  -- what is written of the log begins with them
  begins : (front back : List ℕ) → upgraded records ≡ front ++ back → (log : List ℕ)
      → HasFirst limits known records log → BeginsUpgraded limits log front
  begins front back is log has =
      let format = format_or_one has.format in
      let whole = whole_of limits log has.format (records ++ has.more) has.fault has.is_log in
      let on = accepted_on limits format records has.more
      (keeps_known limits known has.format records has.is_known a) in
      let left = flat_map spelling on.more in (
        whole.0,
        back ++ left,
        record {
          whole = whole.1;
          accepted = records ++ on.more;
          has = on.has;
          is = sym (upgraded_more records on.more ∙ ap (λ w. w ++ left) is
              ∙ append_assoc front back left);
        },
      )

  -- they are what is written of it
  are_written : (log : List ℕ) (given : Verdict) (whole : (v : Verdict) × IsVerdict limits log v)
      → given ≡ as_given whole.0
      → HasAccepted limits (format_or_one whole.1.format) whole.1.records records
      → IsUpgraded limits log given (upgraded records)
  are_written log given whole is has =
      subst (λ x. IsUpgraded limits log x (upgraded records))
      (sym (is ∙ exact limits a.range log whole.0 whole.1)) (record {
        whole = whole.1;
        accepted = records;
        has = has;
        is = refl;
      })

  -- an event of the next record offends
  pub upgraded_no : (next : Record) (log : List ℕ) (w given : Verdict) → IsSome known
      → HasFirst limits known (records ++ next ∷ []) log
      → Offends limits (format_or_one known) (records ++ next ∷ []) w → given ≡ as_given w
      → IsUpgraded limits log given (upgraded records)
  upgraded_no next log w given some has offends is =
      let all : List Record = records ++ next ∷ [] in
      let format = format_or_one known in
      let whole = whole_of limits log known (all ++ has.more) has.fault
      (subst (λ (o : Option Format). IsLog limits log o (all ++ has.more) has.fault)
      (first_format limits known all log some has) has.is_log) in
      are_written log given whole
      (is ∙ ap as_given (offends_final limits format all has.more has.fault w whole.0 offends
      whole.1.final))
      (subst (λ rs. HasAccepted limits format rs records)
      (sym (append_assoc records (next ∷ []) has.more))
      (accepted_here limits format records has.more next w a.keeps offends))

  -- the log ends after them
  pub upgraded_end : (flaw : Option (ℕ × LogCode)) (log : List ℕ) (given : Verdict)
      → IsLog limits log known records flaw
      → ((w : Verdict) → as_given w ≡ w → IsFinal limits (format_or_one known) records flaw w
      → given ≡ w)
      → IsUpgraded limits log given (upgraded records)
  upgraded_end flaw log given is_log says =
      let whole = whole_of limits log known records flaw is_log in
      let exact_is = exact limits a.range log whole.0 whole.1 in
      are_written log given whole (says whole.0 exact_is whole.1.final ∙ sym exact_is)
      (accepted_all limits (format_or_one known) records a.keeps)

  module _ (start now old mid : Told) where
    -- not all of them were written
    pub unwritten : (front back : List ℕ) → upgraded records ≡ front ++ back → Took old mid front
        → mid.failures ≡ after_failure old.failures → now.failures ≡ start.failures
        → OfRead limits start now (HasFirst limits known records)
        → UpgradesLog limits (ports start now old mid) (Err faults.Write)
    unwritten front back is took failures source first = judged_not _ _ _ _ _ _ (
      front,
      took,
      read_map limits start now (HasFirst limits known records)
          (λ log. BeginsUpgraded limits log front) (begins front back is) first,
    ) source failures

    -- the log was not read to its verdict
    pub broke : (fault : RunFault) → Wrote old mid (upgraded records)
        → entries.BrokeOff limits start now known records fault
        → UpgradesLog limits (ports start now old mid) (Err fault)
    broke fault wrote off =
        judged_not _ _ _ _ _ _ (
          upgraded records,
          wrote.took,
          read_map limits start now (HasFirst limits known records)
              (λ log. BeginsUpgraded limits log (upgraded records))
              (begins (upgraded records) [] (sym (append-nil (upgraded records)))) off.of_read,
        ) off.failures
        (unwritten_sink fault _ _ off.unwritten wrote.failures)

-- ---- the next entry

module _ (limits : Bounds) (e : LogEvents) (records : List Record)
    (a : Accepted limits e.log.format records) (start now old mid : Told) (given : List Raw)
    (wrote : Wrote old mid (upgraded records)) where
  -- the verdict was found
  all_written : (v : code.Verdict)
      → OfRead limits start now (λ log. IsUpgraded limits log (verdict_view v) (upgraded records))
      → now.failures ≡ start.failures
      → UpgradesLog limits (ports start now old mid) (Ok (Judged v))
  all_written v due failures = judges limits a.range _ _ _ _ v
      (read_map _ _ _ _ (λ log. IsVerdict limits log (verdict_view v))
      (λ log upgrade. upgrade.whole) due) (upgraded records, wrote.took, due) (λ log s says. says)
      failures wrote.failures

  -- an event of the next record offends
  pub offended : (next : Record) (ruling : Ruling) (v : code.Verdict)
      → IsIdle limits e start now (records ++ next ∷ []) records given
      → verdict_in ruling ≡ Some (verdict_view v)
      → Rules limits (format_or_one e.log.format) (records ++ next ∷ []) ruling
      → UpgradesLog limits (ports start now old mid) (Ok (Judged v))
  offended next ruling v idle is rules =
      let all : List Record = records ++ next ∷ [] in
      let offence = rules_offence limits (format_or_one e.log.format) all ruling (verdict_view v) is
      rules in
      all_written v
      (read_map limits start now (HasFirst limits e.log.format all)
      (λ log. IsUpgraded limits log (verdict_view v) (upgraded records))
      (λ log has. upgraded_no limits e.log.format records a next log offence.0 (verdict_view v)
      (known_record e.log.format records next idle.at.early) has offence.1 offence.2)
      (is_first e.log limits start now all idle.same idle.at)) idle.at.failures

  -- the log ends
  pub all_upgraded : (end : End) (v : code.Verdict)
      → Ended limits e.log.format e start now records given end
      → ((w : Verdict) → as_given w ≡ w
      → IsFinal limits (format_or_one e.log.format) records (flaw_of end) w → verdict_view v ≡ w)
      → UpgradesLog limits (ports start now old mid) (Ok (Judged v))
  all_upgraded end v ended says = all_written v
      (read_map limits start now (IsLogOf e.log limits records (flaw_of end))
      (λ log. IsUpgraded limits log (verdict_view v) (upgraded records))
      (λ log is. upgraded_end limits e.log.format records a (flaw_of end) log (verdict_view v)
      (log_of limits e.log records (flaw_of end) log is) says) ended.ends.of_read)
      ended.ends.failures

  -- memory was refused at the end
  pub refused_end : (end : End) → Ended limits e.log.format e start now records given end
      → UpgradesLog limits (ports start now old mid) (Err faults.Memory)
  refused_end end ended = broke limits e.log.format records a start now old mid faults.Memory wrote
      (record {
        of_read = read_map limits start now (IsLogOf e.log limits records (flaw_of end))
            (HasFirst limits e.log.format records) (λ log is. record {
              format = e.log.format;
              more = [];
              fault = flaw_of end;
              is_log = subst (λ w. IsLog limits log e.log.format w (flaw_of end))
                  (sym (append-nil records)) (log_of limits e.log records (flaw_of end) log is);
              is_known = known_self e.log.format;
            }) ended.ends.of_read;
        failures = ended.ends.failures;
        unwritten = λ same. absurd cc;
      })
    where
      known_self : (format : Option Format) → IsKnown format format
      known_self None = tt
      known_self (Some f) = refl

-- these records of the log were accepted, and their upgrade is written; the log has this next
pub record Upgrading (limits : Bounds) (e : LogEvents) (m : session.State) (d : docs.State)
    (c : Counts) (next : Entry) (start now old new : Told) : Type 0 where
  pub records : List Record
  pub early : e.log.format ≡ None → records ≡ []
  pub heard : AreHeard limits (format_or_one e.log.format) e.streams m d c records
  pub next_is : IsNext limits e start now records heard.1.past next
  pub wrote : Wrote old new (upgraded records)

-- a record was written, and the next entry read
pub one_written : (limits : Bounds) (e : LogEvents) (m : session.State) (d : docs.State)
    (c : Counts) (next : Entry) (start now old new : Told) (known : Option Format)
    (s : frames.State) (records : List Record) → IsSome known
    → KeepsFormat known e.log.format → e.streams ≡ s
    → (o : AreHeard limits (format_or_one known) s m d c records)
    → IsNext limits e start now records o.1.past next → Wrote old new (upgraded records)
    → Upgrading limits e m d c next start now old new
one_written limits e m d c next start now old new known s records some keeps same o is wrote =
    let format : e.log.format ≡ known = kept known some keeps in
    record {
      records = records;
      early = λ none. absurd (none_some known some (sym format ∙ none));
      heard = (
        o.0,
        record {
          past = o.1.past;
          stands = subst (λ (t : frames.State). frames.Stands limits t records o.1.past [])
              (sym same) o.1.stands;
          has = subst (λ (f : Option Format). HasHeard (log_terms limits f) m d c o.1.past o.0)
              (sym format) o.1.has;
        },
      );
      next_is = is;
      wrote = wrote;
    }
  where
    kept : (was : Option Format) → IsSome was → KeepsFormat was e.log.format → e.log.format ≡ was
    kept None some keeps = absurd cc
    kept (Some format) some keeps = keeps format refl

    none_some : (was : Option Format) → IsSome was → was ≡ None → ⊥
    none_some None some is = absurd cc
    none_some (Some format) some is = absurd cc
