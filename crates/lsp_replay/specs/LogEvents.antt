-- The events of a log one after another, before their contents are read.
use Rattle.std.specs.Prelude.{◌≡◌, ℕ, ◌+◌, List, [], ◌∷◌, ◌++◌, Option, Some, None, IsSome, Result}
use Rattle.std.specs.Prelude.{Ok, Err}
use Rattle.std.specs.Io.KnownBytes.{IsAtEnd}
use Rattle.lsp_frame.specs.Bounds.{Bounds}
use Rattle.lsp_frame.specs.Told.{Told}
use Rattle.lsp_frame.specs.declared.format.Format.{Format}
use Rattle.lsp_log.specs.Log.{Record, IsLog}
use Rattle.lsp_log.specs.Reader as reader
use Rattle.lsp_log.specs.Reader.{ahead}
use Rattle.lsp_log.specs.Records.{record_view}
use Rattle.lsp_log.specs.declared.fault.LogCode.{LogCode}
use Rattle.lsp_replay.specs.Streams as streams
use Rattle.lsp_replay.specs.Streams.{EndsInLast, IsHeld, IsRaw, LendsRest, Stands}
use Rattle.lsp_verdict.specs.Given.{raw_view}
use Rattle.lsp_replay.specs.declared.log_events.Entry.{Entry}
use Rattle.lsp_replay.specs.declared.log_events.Entry.TheVariants as entry
use Rattle.lsp_replay.specs.declared.log_events.End.{End}
use Rattle.lsp_replay.specs.declared.log_events.End.TheVariants.{Sound, Bad}
use Rattle.lsp_replay.specs.declared.log_events.LogEvents.{LogEvents}
use Rattle.lsp_replay.specs.declared.log_events.Next.{Next}
use Rattle.lsp_replay.specs.declared.log_events.Next.TheVariants as next
use Rattle.lsp_replay.specs.declared.log_events.Step.{Step}
use Rattle.lsp_replay.specs.declared.log_events.Step.TheVariants as step
use Rattle.lsp_verdict.specs.Runs as entries
use Rattle.lsp_verdict.specs.Runs.{IsAt, ShowsFault, OfRead, BreaksOff, failures_after}
use Rattle.lsp_verdict.specs.Placed.{Raw, Placed}
use Rattle.lsp_verdict.specs.declared.outcome.RunFault.{RunFault}
use Rattle.lsp_verdict.specs.declared.outcome.RunFault.TheVariants as faults

-- ---- logs

-- these records continue after those
abbrev pub GoesBehind : List Record → List Record → Type 0
GoesBehind front records = (more : List Record) × (records ≡ front ++ more)

-- the log is of this format, and has these records first, and these events
pub record HasGiven (limits : Bounds) (format : Option Format) (front : List Record)
    (given : List Raw) (log : List ℕ) : Type 0 where
  pub records : List Record
  pub log_fault : Option (ℕ × LogCode)
  pub later : List Raw
  pub is_log : IsLog limits log format records log_fault
  pub goes : GoesBehind front records
  pub placed : Placed limits records (given ++ later)

-- the log has these records and this fault, or none; of a fault its reader knows how many bytes of
-- the log come before it, and the line that is there
abbrev pub IsLogOf : reader.State → Bounds → List Record → Option (ℕ × LogCode) → List ℕ → Type 0
IsLogOf r limits records None log = IsLog limits log r.format records None
IsLogOf r limits records (Some flaw) log = ShowsFault r limits records flaw log

-- ---- how far a log was read

-- the fault with which a log ends
abbrev pub flaw_of : End → Option (ℕ × LogCode)
flaw_of Sound = None
flaw_of (Bad number fault) = Some (number, fault)

-- the log ends after these records, with this fault or none
pub record EndsBehind (r : reader.State) (limits : Bounds) (start now : Told)
    (records : List Record) (flaw : Option (ℕ × LogCode)) : Type 0 where
  pub of_read : OfRead limits start now (IsLogOf r limits records flaw)
  pub failures : now.failures ≡ start.failures
  pub met : flaw ≡ None → IsAtEnd now.bytes

-- the log has these records first, and its end was not read; or they are all, and it has
abbrev pub HasRead : Option End → reader.State → Bounds → Told → Told → List Record → Type 0
HasRead None r limits start now records = IsAt r start now records × IsSome r.format
HasRead (Some end) r limits start now records = EndsBehind r limits start now records (flaw_of end)

-- **of a log of this format these records were taken, and of their events these were given; those
-- that are due are still to be given**
pub record Reads (limits : Bounds) (format : Option Format) (e : LogEvents) (start now : Told)
    (records : List Record) (given due : List Raw) : Type 0 where
  pub same : e.log.limits ≡ limits
  pub format_is : e.log.format ≡ format
  pub read : HasRead e.end e.log limits start now records
  pub stands : Stands limits e.streams records given due

-- all events of the log were given, and it ends so
pub record Ended (limits : Bounds) (format : Option Format) (e : LogEvents) (start now : Told)
    (records : List Record) (given : List Raw) (end : End) : Type 0 where
  pub reads : Reads limits format e start now records given []
  pub ends : EndsBehind e.log limits start now records (flaw_of end)

-- reading broke off after these records of a log of this format, all of whose events were given
pub record BrokeOff (limits : Bounds) (start now : Told) (format : Option Format)
    (records : List Record) (given : List Raw) (fault : RunFault) : Type 0 where
  pub of_read : OfRead limits start now (HasGiven limits format records given)
  pub whole : Placed limits records given
  pub failures : now.failures ≡ failures_after fault start.failures
  pub unwritten : fault ≡ faults.Write → ⊥

-- the first record was read, or there is none
abbrev pub Opens : Bounds → Told → Told → LogEvents → Type 0
Opens limits start now e =
    (records : List Record) × (due : List Raw)
    × Reads limits e.log.format e start now records [] due

-- ---- the next event

-- one more event of these records, or of more, with the rest of its side where it is a content or
-- its frames have a fault; or the end of the log after them
abbrev pub Gives : Bounds → Option Format → LogEvents → Told → Told → List Record → List Raw
    → Result Next RunFault → Type 0
Gives limits format e start now records given (Ok (next.Event raw)) =
    (more : List Record) × (later : List Raw)
    × Reads limits format e start now (records ++ more) (given ++ raw_view raw ∷ []) later
    × (LendsRest e.streams raw × EndsInLast e.streams (records ++ more) (raw_view raw))
Gives limits format e start now records given (Ok (next.End end)) =
    (more : List Record) × Ended limits format e start now (records ++ more) given end
Gives limits format e start now records given (Err fault) =
    (more : List Record) × BrokeOff limits start now format (records ++ more) given fault

abbrev pub NextIs : LogEvents → LogEvents → Told → Told → Result Next RunFault → Type 0
NextIs old new before now result =
    (limits : Bounds) (format : Option Format) (start : Told) (records : List Record)
    (given due : List Raw) → Reads limits format old start before records given due
    → Gives limits format new start now records given result

-- ---- its steps

-- what is lent of the event is held
abbrev pub HoldsStep : streams.State → Step → Type 0
HoldsStep s (step.Event due) = IsHeld s due
HoldsStep s (step.End end) = Unit {0}

-- the event was skipped, and is such a one
abbrev pub Finds : Bounds → Option Format → LogEvents → Told → Told → List Record → List Raw
    → Result Step RunFault → Type 0
Finds limits format e start now records given (Ok (step.Event due)) =
    (raw : Raw) × IsRaw e.streams due raw
    × ((more : List Record) × (later : List Raw)
    × Reads limits format e start now (records ++ more) (given ++ raw ∷ []) later
    × EndsInLast e.streams (records ++ more) raw)
Finds limits format e start now records given (Ok (step.End end)) =
    (more : List Record) × Ended limits format e start now (records ++ more) given end
Finds limits format e start now records given (Err fault) =
    (more : List Record) × BrokeOff limits start now format (records ++ more) given fault

-- these records were read, of which these were pushed and all of their events given; and the end of
-- the log was not read
pub record IsIdle (limits : Bounds) (e : LogEvents) (start now : Told)
    (read records : List Record) (given : List Raw) : Type 0 where
  pub same : e.log.limits ≡ limits
  pub goes_on : e.end ≡ None
  pub at : IsAt e.log start now read
  pub stands : Stands limits e.streams records given []

-- this entry was read after these records
abbrev pub IsNext : Bounds → LogEvents → Told → Told → List Record → List Raw → Entry → Type 0
IsNext limits e start now records given (entry.Record next) =
    IsIdle limits e start now (records ++ record_view next ∷ []) records given
IsNext limits e start now records given (entry.End end) =
    Ended limits e.log.format e start now records given end

-- one more entry was read, or reading broke off
abbrev pub Brings : Bounds → Option Format → LogEvents → Told → Told → List Record → List Raw
    → Result Entry RunFault → Type 0
Brings limits known e start now records given (Ok next) =
    IsNext limits e start now records given next
Brings limits known e start now records given (Err fault) =
    entries.BrokeOff limits start now known records fault

-- one more record was taken, or the end of the log; or reading broke off
abbrev pub Takes : Bounds → Option Format → LogEvents → Told → Told → List Record → List Raw
    → Result (Unit {0}) RunFault → Type 0
Takes limits known e start now records given (Ok u) =
    (more : List Record) × (due : List Raw)
    × Reads limits e.log.format e start now (records ++ more) given due
Takes limits known e start now records given (Err fault) =
    BreaksOff limits start now fault
    × ((format : Format) → known ≡ Some format
    → BrokeOff limits start now (Some format) records given fault)

abbrev pub unread_to : Option End → reader.State → ℕ
unread_to None r = ahead r + 1
unread_to (Some end) r = 0

-- how much of the log may still be read, its end included
abbrev pub unread : LogEvents → ℕ
unread e = unread_to e.end e.log
