-- Each event given leaves fewer to give.
use Rattle.std.proofs.Common.{◌≡◌, ◌<◌, ◌+◌, ℕ, Option, Some, None, refl, ap, length, arith, List}
use Rattle.std.proofs.Common.{[], ◌∷◌, ◌++◌, IsSome, Result, Ok, Err, sym, subst, ◌∙◌, append_assoc}
use Rattle.std.proofs.Common.{append-nil}
use Rattle.std.specs.Io.KnownBytes.{IsAtEnd}
use Rattle.lsp_frame.specs.Buffer.{last_of}
use Rattle.lsp_frame.specs.Decoder as decoder
use Rattle.lsp_frame.specs.Bounds.{Bounds}
use Rattle.lsp_frame.specs.Told.{Told}
use Rattle.lsp_frame.specs.declared.format.Format.{Format}
use Rattle.lsp_types.specs.declared.side.Side.{Side}
use Rattle.lsp_types.specs.declared.side.Side.TheVariants.{Editor, Server}
use Rattle.lsp_log.specs.Log.{Record, IsLog}
use Rattle.lsp_log.specs.Reader as reader
use Rattle.lsp_log.specs.declared.fault.LogCode.{LogCode}
use Rattle.lsp_verdict.specs.Runs as entries
use Rattle.lsp_verdict.specs.Runs.{IsAt, HasFirst, ShowsFault, OfRead}
use Rattle.lsp_verdict.specs.Placed.{Raw, Placed}
use Rattle.lsp_verdict.specs.declared.outcome.RunFault.{RunFault}
use Rattle.lsp_verdict.specs.declared.outcome.RunFault.TheVariants as faults
use Rattle.lsp_verdict.proofs.Entries.{HasRecords, is_first}
use Rattle.lsp_verdict.proofs.Finding.{not_nil}
use Rattle.lsp_verdict.proofs.Outcomes.{placed_front}
use Rattle.lsp_verdict.proofs.RunsJudged.{read_map}
use Rattle.lsp_verdict.proofs.Sessions.{some_placed}
use Rattle.lsp_replay.specs.Streams.{State, StepsBy, StepsSide, StepsAt, Steps, left_of, left_in}
use Rattle.lsp_replay.specs.Streams.{EndsInLast, unbroken, IsRaw, Stands}
use Rattle.lsp_replay.specs.declared.streams.Due.{Due}
use Rattle.lsp_replay.specs.declared.streams.Due.TheVariants as next
use Rattle.lsp_replay.specs.declared.streams.PendingEvents.{PendingEvents}
use Rattle.lsp_replay.specs.declared.streams.PendingEvents.TheVariants as turn
use Rattle.lsp_replay.proofs.FrameSteps.{frame_step}
use Rattle.lsp_replay.specs.LogEvents.{HasGiven, IsLogOf, EndsBehind, HasRead, Reads, Ended}
use Rattle.lsp_replay.specs.LogEvents.{BrokeOff, Finds, IsIdle, Takes, flaw_of}
use Rattle.lsp_replay.specs.declared.log_events.End.{End}
use Rattle.lsp_replay.specs.declared.log_events.End.TheVariants.{Sound, Bad}
use Rattle.lsp_replay.specs.declared.log_events.LogEvents.{LogEvents}
use Rattle.lsp_replay.specs.declared.log_events.Step.{Step}
use Rattle.lsp_replay.specs.declared.log_events.Step.TheVariants as found
use Rattle.lsp_replay.proofs.Streaming.{one_raw, stepped}

side_fewer : (side : Side) (d e : decoder.State) (given : Due)
    → StepsSide side d e (Some given) → left_of e < left_of d
side_fewer side d e given steps = by_fault d.fault refl given steps
  where
    by_fault : (f : Option ℕ) → d.fault ≡ f → (o : Due)
        → StepsBy f side d e (Some o) → left_of e < left_of d
    by_fault (Some rule) is o (none, same) = absurd cc
    by_fault None is (next.Content by len) (own, within, step) =
        let gives : decoder.GivesFrame d e (last_of e.kept len) = step.step in
        let shorter = (frame_step d e (last_of e.kept len) step).shorter in
        let stays : unbroken e.fault ≡ unbroken d.fault
        = ap (λ (s : decoder.State). unbroken s.fault) gives.same in
        omega (arith, shorter, stays)
    by_fault None is (next.Broken by rule) (own, step) =
        let gives : decoder.GivesFault d e rule = step.step in
        let same : length e.rest ≡ length d.rest
        = ap (λ (s : decoder.State). length s.rest) gives.same in
        let broken : unbroken e.fault ≡ 0
        = ap (λ (s : decoder.State). unbroken s.fault) gives.same in
        let whole : unbroken d.fault ≡ 1 = ap unbroken is in
        omega (arith, same, broken, whole)
    by_fault None is next.Snapshot step = absurd step

pub fewer : (old new : State) (given : Due) → Steps old new (Some given) → left_in new < left_in old
fewer old new given steps = by_turn old.turn refl steps
  where
    by_turn : (t : Option PendingEvents) → old.turn ≡ t
        → StepsAt t old new (Some given) → left_in new < left_in old
    by_turn None is (none, same) = absurd cc
    by_turn (Some (turn.Bytes Editor)) is (steps, same) =
        let shorter = side_fewer Editor old.editor new.editor given steps in
        let all : left_in new ≡ left_in (record old { editor = new.editor }) = ap left_in same in
        omega (arith, shorter, all)
    by_turn (Some (turn.Bytes Server)) is (steps, same) =
        let shorter = side_fewer Server old.server new.server given steps in
        let all : left_in new ≡ left_in (record old { server = new.server }) = ap left_in same in
        omega (arith, shorter, all)
    by_turn (Some turn.Snapshot) is (shown, same, held) =
        let all : left_in new ≡ left_of old.editor + left_of old.server + 0 = ap left_in same in
        let before : left_in old ≡ left_of old.editor + left_of old.server + 1
        = ap (λ (t : Option PendingEvents). left_in (record old { turn = t })) is in
        omega (arith, all, before)

-- ---- a log that has these records and events first

none_more : (P : List Record → Type 0) (records : List Record) → P records
    → (more : List Record) × P (records ++ more)
none_more P records p = ([], subst P (sym (append-nil records)) p)

more_then : (P : List Record → Type 0) (records more : List Record)
    → ((rest : List Record) × P ((records ++ more) ++ rest))
    → (all : List Record) × P (records ++ all)
more_then P records more (rest, p) = (more ++ rest, subst P (append_assoc records more rest) p)

-- the log is of the format that is known
pub first_format : (limits : Bounds) (known : Option Format) (records : List Record) (log : List ℕ)
    → IsSome known → (has : HasFirst limits known records log) → has.format ≡ known
first_format limits None records log known has = absurd cc
first_format limits (Some format) records log known has = has.is_known

-- its events begin with those of its first records
first_given : (limits : Bounds) (known : Option Format) (records : List Record)
    (given due : List Raw) → Placed limits records (given ++ due) → IsSome known → (log : List ℕ)
    → HasFirst limits known records log → HasGiven limits known records given log
first_given limits known records given due placed is_known log has =
    let all = some_placed limits [] [] (records ++ has.more) in
    let front = placed_front limits [] [] records has.more (given ++ due) all.0 placed all.1 in
    record {
      records = records ++ has.more;
      log_fault = has.fault;
      later = due ++ front.0;
      is_log = subst (λ (f : Option Format). IsLog limits log f (records ++ has.more) has.fault)
          (first_format limits known records log is_known has) has.is_log;
      goes = (has.more, refl);
      placed = subst (Placed limits (records ++ has.more))
          (front.1 ∙ append_assoc given due front.0) all.1;
    }

-- these are all of its records
pub log_of : (limits : Bounds) (r : reader.State) (records : List Record)
    (flaw : Option (ℕ × LogCode)) (log : List ℕ) → IsLogOf r limits records flaw log
    → IsLog limits log r.format records flaw
log_of limits r records None log is = is
log_of limits r records (Some flaw) log is = is.is_log

read_given : (end : Option End) (r : reader.State) (limits : Bounds) (start now : Told)
    (records : List Record) (given due : List Raw) → r.limits ≡ limits
    → Placed limits records (given ++ due) → HasRead end r limits start now records
    → OfRead limits start now (HasGiven limits r.format records given)
read_given None r limits start now records given due same placed (at, known) =
    read_map limits start now (HasFirst limits r.format records)
    (HasGiven limits r.format records given)
    (first_given limits r.format records given due placed known)
    (is_first r limits start now records same at)
read_given (Some end) r limits start now records given due same placed ends =
    read_map limits start now (IsLogOf r limits records (flaw_of end))
    (HasGiven limits r.format records given)
    (λ log is. record {
      records = records;
      log_fault = flaw_of end;
      later = due;
      is_log = log_of limits r records (flaw_of end) log is;
      goes = ([], sym (append-nil records));
      placed = placed;
    }) ends.of_read

-- **the log read has these events first**
pub reads_given : (limits : Bounds) (format : Option Format) (e : LogEvents) (start now : Told)
    (records : List Record) (given due : List Raw)
    → Reads limits format e start now records given due
    → OfRead limits start now (HasGiven limits format records given)
reads_given limits format e start now records given due h =
    subst (λ (f : Option Format). OfRead limits start now (HasGiven limits f records given))
    h.format_is (read_given e.end e.log limits start now records given due h.same
    h.stands.placed h.read)

-- the source did not fail
pub reads_failures : (limits : Bounds) (format : Option Format) (e : LogEvents) (start now : Told)
    (records : List Record) (given due : List Raw)
    → Reads limits format e start now records given due → now.failures ≡ start.failures
reads_failures limits format e start now records given due h = by_end e.end h.read
  where
    by_end : (o : Option End) → HasRead o e.log limits start now records
        → now.failures ≡ start.failures
    by_end None read = read.0.failures
    by_end (Some end) read = read.failures

-- ---- one more entry

pub known_record : (format : Option Format) (records : List Record) (next : Record)
    → (format ≡ None → records ++ next ∷ [] ≡ []) → IsSome format
known_record None records next early = absurd (not_nil records next (early refl))
known_record (Some f) records next early = refl

-- a log that has one record more has these first
pub fewer_first : (limits : Bounds) (known : Option Format) (records : List Record) (next : Record)
    (log : List ℕ) → HasFirst limits known (records ++ next ∷ []) log
    → HasFirst limits known records log
fewer_first limits known records next log has = record {
  format = has.format;
  more = next ∷ has.more;
  fault = has.fault;
  is_log = subst (λ (rs : List Record). IsLog limits log has.format rs has.fault)
      (append_assoc records (next ∷ []) has.more) has.is_log;
  is_known = has.is_known;
}

-- less was known of its format before
known_before : (limits : Bounds) (was known : Option Format) (records : List Record) (log : List ℕ)
    → reader.KeepsFormat was known → HasFirst limits known records log
    → HasFirst limits was records log
known_before limits None known records log keeps has = record {
  format = has.format;
  more = has.more;
  fault = has.fault;
  is_log = has.is_log;
  is_known = tt;
}
known_before limits (Some format) known records log keeps has =
    subst (λ (f : Option Format). HasFirst limits f records log) (keeps format refl) has

module _ (limits : Bounds) (start now : Told) (records : List Record) (given : List Raw) where
  -- memory was refused for the record read next
  pub refused_record : (e : LogEvents) (next : Record)
      → IsIdle limits e start now (records ++ next ∷ []) records given
      → entries.BrokeOff limits start now e.log.format records faults.Memory
  refused_record e next h = record {
    of_read = read_map limits start now (HasFirst limits e.log.format (records ++ next ∷ []))
        (HasFirst limits e.log.format records) (fewer_first limits e.log.format records next)
        (is_first e.log limits start now (records ++ next ∷ []) h.same h.at);
    failures = h.at.failures;
    unwritten = λ write. absurd cc;
  }

  -- the next entry could not be taken
  pub untaken : (was known : Option Format) (e : LogEvents) (s : State) (fault : RunFault)
      → reader.KeepsFormat was known → Stands limits s records given []
      → entries.BrokeOff limits start now known records fault
      → Takes limits was e start now records given (Err fault)
  untaken was known e s fault keeps h broke =
      let first = read_map limits start now (HasFirst limits known records)
      (HasFirst limits was records) (λ log. known_before limits was known records log keeps)
      broke.of_read in (
        record {
          of_read = read_map limits start now (HasFirst limits was records) (λ log. Unit {0})
              (λ log has. tt) first;
          failures = broke.failures;
          unwritten = broke.unwritten;
        },
        λ format is. record {
          of_read = read_map limits start now (HasFirst limits (Some format) records)
              (HasGiven limits (Some format) records given)
              (first_given limits (Some format) records given [] h.placed refl)
              (subst (λ (f : Option Format). OfRead limits start now (HasFirst limits f records)) is
              first);
          whole = subst (Placed limits records) (append-nil given) h.placed;
          failures = broke.failures;
          unwritten = broke.unwritten;
        },
      )

  module _ (e : LogEvents) where
    -- a record was taken
    pub record_taken : (next : Record) → e.log.limits ≡ limits → e.end ≡ None
        → IsAt e.log start now (records ++ next ∷ [])
        → ((due : List Raw) × Stands limits e.streams (records ++ next ∷ []) given due)
        → Takes limits e.log.format e start now records given (Ok tt)
    record_taken next same none at (due, stands) = (
      next ∷ [],
      due,
      record {
        same = same;
        format_is = refl;
        read = subst (λ (o : Option End). HasRead o e.log limits start now (records ++ next ∷ []))
            (sym none) (at, known_record e.log.format records next at.early);
        stands = stands;
      },
    )

    -- the end was
    pub end_taken : (end : End) → Ended limits e.log.format e start now records given end
        → Takes limits e.log.format e start now records given (Ok tt)
    end_taken end ended =
        let all = none_more (λ rs. Reads limits e.log.format e start now rs given []) records
        ended.reads in
        (all.0, [], all.1)

    -- it was read
    pub ended_at : (end : End) → e.log.limits ≡ limits → e.end ≡ Some end
        → Stands limits e.streams records given []
        → EndsBehind e.log limits start now records (flaw_of end)
        → Ended limits e.log.format e start now records given end
    ended_at end same is stands ends = record {
      reads = record {
        same = same;
        format_is = refl;
        read = subst (λ (o : Option End). HasRead o e.log limits start now records) (sym is) ends;
        stands = stands;
      };
      ends = ends;
    }

pub sound_end : (was limits : Bounds) (r : reader.State) (start now : Told) (records : List Record)
    → was ≡ limits → HasRecords was start now r.format records None → IsAtEnd now.bytes
    → EndsBehind r limits start now records (flaw_of Sound)
sound_end was limits r start now records same has met =
    let here = subst (λ (b : Bounds). HasRecords b start now r.format records None) same has in
    record {
      of_read = read_map limits start now (λ log. IsLog limits log r.format records None)
          (IsLogOf r limits records None) (λ log is. is) here.of_read;
      failures = here.failures;
      met = λ none. met;
    }

pub bad_end : (was limits : Bounds) (r : reader.State) (start now : Told) (records : List Record)
    (number : ℕ) (fault : LogCode) → was ≡ limits
    → HasRecords was start now r.format records (Some (number, fault))
    → OfRead was start now (ShowsFault r was records (number, fault))
    → EndsBehind r limits start now records (flaw_of (Bad number fault))
bad_end was limits r start now records number fault same has shows = record {
  of_read = read_map limits start now (ShowsFault r limits records (number, fault))
      (IsLogOf r limits records (Some (number, fault))) (λ log is. is)
      (subst (λ (b : Bounds). OfRead b start now (ShowsFault r b records (number, fault))) same
      shows);
  failures = has.failures;
  met = λ none. absurd cc;
}

-- ---- the next event

module _ (limits : Bounds) (format : Option Format) (start now : Told) (records : List Record)
    (given due : List Raw) (old new : LogEvents) (log : new.log ≡ old.log) (end : new.end ≡ old.end)
    (h : Reads limits format old start now records given due) where
  -- the streams alone went on
  moved : (past left : List Raw) → Stands limits new.streams records past left
      → Reads limits format new start now records past left
  moved past left stands = record {
    same = ap (λ (r : reader.State). r.limits) log ∙ h.same;
    format_is = ap (λ (r : reader.State). r.format) log ∙ h.format_is;
    read = subst (λ (o : Option End). HasRead o new.log limits start now records) (sym end)
        (subst (λ (r : reader.State). HasRead old.end r limits start now records) (sym log) h.read);
    stands = stands;
  }

  -- one more event was given
  pub event_found : (step : Due) → Steps old.streams new.streams (Some step)
      → Finds limits format new start now records given (Ok (found.Event step))
  event_found step steps =
      let one = stepped limits records given due old.streams new.streams (Some step) steps
      h.stands in
      let past : List Raw = given ++ one.0 ∷ [] in
      let all = none_more (λ rs. (left : List Raw) × Reads limits format new start now rs past left
      × EndsInLast new.streams rs one.0)
      records (one.2.0, moved past one.2.0 one.2.2, one.2.3) in
      (one.0, one.1, (all.0, all.1.0, all.1.1, all.1.2))

  -- all were given
  pub none_left : Steps old.streams new.streams None
      → Reads limits format new start now records given []
  none_left steps = moved given [] (stepped limits records given due old.streams new.streams None
      steps h.stands).1

abbrev pub TookMore : Bounds → Option Format → LogEvents → Told → Told → List Record → List Raw
    → Result (Unit {0}) RunFault → Type 0
TookMore limits format e start now records given (Ok u) =
    (more : List Record) × (due : List Raw)
    × Reads limits format e start now (records ++ more) given due
TookMore limits format e start now records given (Err fault) =
    BrokeOff limits start now format records given fault

-- and the log ends
pub end_found : (limits : Bounds) (format : Option Format) (start now : Told)
    (records : List Record) (given : List Raw) (e : LogEvents) (end : End) → e.end ≡ Some end
    → Reads limits format e start now records given []
    → Finds limits format e start now records given (Ok (found.End end))
end_found limits format start now records given e end is h =
    none_more (λ rs. Ended limits format e start now rs given end) records (record {
      reads = h;
      ends = subst (λ (o : Option End). HasRead o e.log limits start now records) is h.read;
    })

-- it goes on, and is of a format
pub goes_on : (limits : Bounds) (format : Option Format) (start now : Told) (records : List Record)
    (given : List Raw) (e : LogEvents) → e.end ≡ None
    → Reads limits format e start now records given []
    → IsIdle limits e start now records records given × IsSome e.log.format
goes_on limits format start now records given e none h =
    let read : HasRead None e.log limits start now records =
    subst (λ (o : Option End). HasRead o e.log limits start now records) none h.read in
    (record { same = h.same; goes_on = none; at = read.0; stands = h.stands }, read.1)

-- what was taken after these records
pub took : (limits : Bounds) (format : Option Format) (start now : Told) (records : List Record)
    (given : List Raw) (old new : LogEvents) (result : Result (Unit {0}) RunFault)
    → old.log.format ≡ format → IsSome old.log.format
    → reader.KeepsFormat old.log.format new.log.format
    → Takes limits old.log.format new start now records given result
    → TookMore limits format new start now records given result
took limits format start now records given old new result is known keeps takes =
    by_result (by_format old.log.format refl known) result takes
  where
    by_format : (o : Option Format) → old.log.format ≡ o → IsSome o
        → (f : Format) × (old.log.format ≡ Some f)
    by_format None same some = absurd cc
    by_format (Some f) same some = (f, same)

    by_result : (f : Format) × (old.log.format ≡ Some f) → (r : Result (Unit {0}) RunFault)
        → Takes limits old.log.format new start now records given r
        → TookMore limits format new start now records given r
    by_result (f, same) (Ok u) (more, due, reads) = (
      more,
      due,
      subst (λ (o : Option Format).
          Reads limits o new start now (records ++ more) given due) (keeps f same ∙ sym same ∙ is)
          reads,
    )
    by_result (f, same) (Err fault) (breaks, broke) =
        subst (λ (o : Option Format). BrokeOff limits start now o records given fault)
        (sym same ∙ is) (broke f same)

-- what was found after more records
pub finds_more : (limits : Bounds) (format : Option Format) (e : LogEvents) (start now : Told)
    (records more : List Record) (given : List Raw) (result : Result Step RunFault)
    → Finds limits format e start now (records ++ more) given result
    → Finds limits format e start now records given result
finds_more limits format e start now records more given (Ok (found.Event step))
    (raw, is, (rest, later, reads, ends)) =
    let all = more_then (λ rs. (left : List Raw)
    × Reads limits format e start now rs (given ++ raw ∷ []) left × EndsInLast e.streams rs raw)
    records more (rest, (later, reads, ends)) in
    (raw, is, (all.0, all.1.0, all.1.1, all.1.2))
finds_more limits format e start now records more given (Ok (found.End end)) (rest, ends) =
    more_then (λ rs. Ended limits format e start now rs given end) records more (rest, ends)
finds_more limits format e start now records more given (Err fault) (rest, broke) =
    more_then (λ rs. BrokeOff limits start now format rs given fault) records more (rest, broke)

-- as far as the log was gone past when the loop began again
abbrev pub ReadsOn : Bounds → Option Format → LogEvents → Told → Told → List Record → List Raw
    → Type 0
ReadsOn limits format e start now records given =
    (more : List Record) × (due : List Raw)
    × Reads limits format e start now (records ++ more) given due

pub reads_on : (limits : Bounds) (format : Option Format) (e : LogEvents) (start now : Told)
    (records : List Record) (given due : List Raw)
    → Reads limits format e start now records given due
    → ReadsOn limits format e start now records given
reads_on limits format e start now records given due h =
    let all = none_more (λ rs. Reads limits format e start now rs given due) records h in
    (all.0, due, all.1)

pub took_on : (limits : Bounds) (format : Option Format) (e : LogEvents) (start now : Told)
    (records more : List Record) (given : List Raw)
    → TookMore limits format e start now (records ++ more) given (Ok tt)
    → ReadsOn limits format e start now records given
took_on limits format e start now records more given (rest, due, reads) =
    let all = more_then (λ rs. Reads limits format e start now rs given due) records more
    (rest, reads) in
    (all.0, due, all.1)

pub broke_on : (limits : Bounds) (format : Option Format) (e : LogEvents) (start now : Told)
    (records more : List Record) (given : List Raw) (fault : RunFault)
    → TookMore limits format e start now (records ++ more) given (Err fault)
    → Finds limits format e start now records given (Err fault)
broke_on limits format e start now records more given fault broke = (more, broke)

-- what was found is lent
pub lent_event : (limits : Bounds) (format : Option Format) (e : LogEvents) (start now : Told)
    (records : List Record) (given : List Raw) (due : Due) (raw : Raw) → IsRaw e.streams due raw
    → Finds limits format e start now records given (Ok (found.Event due))
    → (more : List Record) × (later : List Raw)
    × Reads limits format e start now (records ++ more) (given ++ raw ∷ []) later
    × EndsInLast e.streams (records ++ more) raw
lent_event limits format e start now records given due raw is finds =
    subst (λ (w : Raw). (more : List Record) × (later : List Raw)
    × Reads limits format e start now (records ++ more) (given ++ w ∷ []) later
    × EndsInLast e.streams (records ++ more) w)
    (one_raw e.streams due finds.0 raw finds.1 is) finds.2
