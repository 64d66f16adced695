-- What a reader of a log gives, and the records that it stands for.
use Rattle.std.specs.Prelude.{◌≡◌, ℕ, ◌+◌, ◌-◌, ◌<◌, ◌≤◌, false, List, [], ◌∷◌, ◌++◌, length, Option, Some, None, IsSome, Result, Ok, Err}
use Rattle.std.specs.Io.KnownBytes.{IsAtEnd}
use Rattle.std.specs.List.{flat_map, AllByRecursion}
use Rattle.lsp_frame.specs.Bounds.{Bounds, IsInRange}
use Rattle.lsp_frame.specs.declared.format.Format.{Format}
use Rattle.lsp_frame.specs.Told.{Told, Gave, after_failure}
use Rattle.lsp_log.specs.Log as log
use Rattle.lsp_log.specs.Log.{Flaw, Breaks, Fits, spelling, first_line, wants_bytes, BeginsLog, IsLog}
use Rattle.lsp_log.specs.Place.{place_of, shown_line, found_behind}
use Rattle.lsp_log.specs.Tape.{Held}
use Rattle.lsp_log.specs.Room.{AwaitsRecord}
use Rattle.lsp_log.specs.Records.{record_view}
use Rattle.lsp_log.specs.declared.record.Record.{Record}
use Rattle.lsp_log.specs.declared.fault.LogCode.TheVariants.{L1}
use Rattle.lsp_log.specs.declared.fault.LogFault.{LogFault}
use Rattle.lsp_log.specs.declared.fault.LogFault.TheVariants.{Bad, Read, Memory}
use Rattle.lsp_log.specs.declared.reader.Progress.{Progress}
use Rattle.lsp_log.specs.declared.reader.Progress.TheVariants.{FirstLine, Records, Over}

-- what a reader holds: its limits, the bytes that were read and not given, how far it is, the
-- format once the first line was read, how many records it gave, and how many bytes come before
-- what it gives next
pub record State : Type 0 where
  pub limits : Bounds
  pub tape : Held
  pub progress : Progress
  pub format : Option Format
  pub given : ℕ
  pub place : ℕ

-- a reader by which nothing was read
abbrev pub empty : Bounds → State
empty limits = record { limits = limits; tape = record { rest = []; left = limits.log }; progress = FirstLine; format = None; given = 0; place = 0 }

-- how many bytes may still be given
abbrev pub ahead : State → ℕ
ahead s = s.tape.left + length s.tape.rest

-- how many bytes were given
abbrev pub passed : State → ℕ
passed s = s.limits.log - s.tape.left - length s.tape.rest

-- the line that stands where the next record begins, as far as it is held
abbrev pub shown_by : State → List ℕ
shown_by s = shown_line s.format s.tape.rest

-- ---- the answer that is kept

-- a fault of the log was answered
abbrev pub IsBad : Progress → Type 0
IsBad (Over (Err (Bad number code))) = Unit {0}
IsBad progress = ⊥

abbrev pub answer_of : {X : Type 0} → Result X LogFault → Result (Option Record) LogFault
answer_of (Ok x) = Ok None
answer_of (Err fault) = Err fault

-- the answer that a reader gives from now on, if any
abbrev pub kept_in : Progress → Option (Result (Option Record) LogFault)
kept_in (Over end) = Some (answer_of end)
kept_in progress = None

abbrev pub kept_by : State → Option (Result (Option Record) LogFault)
kept_by s = kept_in s.progress

-- every answer but a record is kept
abbrev pub keeps_of : Result (Option Record) LogFault → Option (Result (Option Record) LogFault)
keeps_of (Ok (Some r)) = None
keeps_of answer = Some answer

-- a kept answer is given again, and nothing is read or changed
abbrev pub RepeatsKept : State → State → Told → Told → Result (Option Record) LogFault → Type 0
RepeatsKept old new before after result = (answer : Result (Option Record) LogFault) → kept_by old ≡ Some answer → (new ≡ old) × (after ≡ before) × (result ≡ answer)

-- ---- the format

-- what an answer says about the format: L1 that there is none, a read fault nothing, and every
-- other that there is one
abbrev pub TellsFormat : Result (Option Record) LogFault → Option Format → Type 0
TellsFormat (Err (Bad number L1)) format = format ≡ None
TellsFormat (Err Read) format = Unit {0}
TellsFormat answer format = IsSome format

-- the format is known once the first line was read
abbrev pub FitsProgress : Progress → Option Format → Type 0
FitsProgress FirstLine format = format ≡ None
FitsProgress Records format = IsSome format
FitsProgress (Over end) format = TellsFormat (answer_of end) format

-- a format that was read stays
abbrev pub KeepsFormat : Option Format → Option Format → Type 0
KeepsFormat old new = (format : Format) → old ≡ Some format → new ≡ Some format

-- ---- what a reader stands for

-- the bytes are the first line of a format, these records within the limits, and the rest, which
-- was not yet given
pub record Reads (s : State) (bytes : List ℕ) (records : List log.Record) : Type 0 where
  pub format : Format
  pub known : s.format ≡ Some format
  pub whole : bytes ≡ (first_line format ++ flat_map spelling records) ++ s.tape.rest
  pub fits : AllByRecursion (Fits s.limits) records
  pub left : s.tape.left + length bytes ≡ s.limits.log
  pub given : s.given ≡ length records

-- none of the bytes was given
pub record ReadsNone (s : State) (bytes : List ℕ) (records : List log.Record) : Type 0 where
  pub unknown : s.format ≡ None
  pub none : records ≡ []
  pub whole : bytes ≡ s.tape.rest
  pub left : s.tape.left + length bytes ≡ s.limits.log
  pub given : s.given ≡ 0

-- every log that begins with the bytes is of this format and begins with these records; with no
-- format, no record was given
abbrev pub Begins : Bounds → List ℕ → Option Format → List log.Record → Type 0
Begins limits bytes (Some format) records = (more : List ℕ) → (rest : List ℕ) × BeginsLog limits format (bytes ++ more) records rest
Begins limits bytes None records = records ≡ []

-- with no format, the bytes are too few for a first line
abbrev pub LacksLine : Option Format → List ℕ → Type 0
LacksLine (Some format) bytes = Unit {0}
LacksLine None bytes = length bytes < 14

abbrev pub StandsAt : Progress → State → List ℕ → List log.Record → Type 0
StandsAt FirstLine s bytes records = ReadsNone s bytes records
StandsAt Records s bytes records = Reads s bytes records
StandsAt (Over (Ok end)) s bytes records = IsLog s.limits bytes s.format records None
StandsAt (Over (Err (Bad number code))) s bytes records = IsLog s.limits bytes s.format records (Some (number, code))
StandsAt (Over (Err Read)) s bytes records = Begins s.limits bytes s.format records × LacksLine s.format bytes
StandsAt (Over (Err Memory)) s bytes records = Begins s.limits bytes s.format records

-- after a fault of the log the reader holds the line that is there
abbrev pub ShowsAt : Progress → State → List ℕ → List log.Record → Type 0
ShowsAt (Over (Err (Bad number code))) s bytes records = shown_by s ≡ found_behind s.limits s.format records bytes
ShowsAt progress s bytes records = Unit {0}

-- **A reader stands for the bytes that its readers gave and the records that it gave.**
abbrev pub StandsFor : State → List ℕ → List log.Record → Type 0
StandsFor s bytes records = IsInRange s.limits × StandsAt s.progress s bytes records × (s.place ≡ place_of s.format records) × ShowsAt s.progress s bytes records

-- ---- what the next call gives

-- the records that were given, and the one that this answer gives
abbrev pub records_with : List log.Record → Result (Option Record) LogFault → List log.Record
records_with records (Ok (Some r)) = records ++ record_view r ∷ []
records_with records answer = records

-- where the reader's end was met, no bytes follow
abbrev pub MayFollow : Told → List ℕ → Type 0
MayFollow after more = IsAtEnd after.bytes → more ≡ []

-- what an answer says about all the bytes that were read, of the records given, and of the reader
abbrev pub Tells : State → Told → Told → List ℕ → List log.Record → Result (Option Record) LogFault → Type 0
Tells new before after bytes records (Ok (Some r)) = after.failures ≡ before.failures
Tells new before after bytes records (Ok None) = IsAtEnd after.bytes × IsLog new.limits bytes new.format records None × (after.failures ≡ before.failures)
Tells new before after bytes records (Err (Bad number code)) = ((more : List ℕ) → MayFollow after more → IsLog new.limits (bytes ++ more) new.format records (Some (number, code))) × (after.failures ≡ before.failures)
Tells new before after bytes records (Err Read) = after.failures ≡ after_failure before.failures
Tells new before after bytes records (Err Memory) = after.failures ≡ before.failures

-- where the log has a fault, the reader holds the line that is there, whatever follows
abbrev pub Shows : State → Told → List ℕ → List log.Record → Result (Option Record) LogFault → Type 0
Shows new after bytes records (Err (Bad number code)) = (more : List ℕ) → MayFollow after more → shown_by new ≡ found_behind new.limits new.format records (bytes ++ more)
Shows new after bytes records answer = Unit {0}

-- these bytes are the first line of a format, records, and then what no record begins with, for a
-- reason that they show whatever may follow
pub record ShowsFlaw (limits : Bounds) (format : Format) (bytes : List ℕ) (records : List log.Record) (flaw : Flaw) : Type 0 where
  pub rest : List ℕ
  pub whole : bytes ≡ (first_line format ++ flat_map spelling records) ++ rest
  pub breaks : Breaks limits rest flaw
  pub shown : wants_bytes (Some flaw) ≡ false

-- of the bytes read at most 64 come after those that show the fault; where the first line is
-- missing, there are no more in all
abbrev pub ShowsNear : Bounds → Option Format → List ℕ → List log.Record → Type 0
ShowsNear limits None bytes records = length bytes ≤ 64
ShowsNear limits (Some format) bytes records = (front after : List ℕ) (flaw : Flaw) → bytes ≡ front ++ after → ShowsFlaw limits format front records flaw → length after ≤ 64

-- a fault of the log is answered once the bytes read show it: at most 64 more were read
abbrev pub StopsNear : State → List ℕ → List log.Record → Result (Option Record) LogFault → Type 0
StopsNear new bytes records (Err (Bad number code)) = ShowsNear new.limits new.format bytes records
StopsNear new bytes records answer = Unit {0}

-- memory is refused only where a record's first line follows the records given, whose numbers are
-- in their ranges, and for a part of it that isn't empty; at most 64 bytes of that part were read
abbrev pub LacksRoom : State → List ℕ → List log.Record → Result (Option Record) LogFault → Type 0
LacksRoom new bytes records (Err Memory) =
    (format : Format) × (front : List ℕ) × (new.format ≡ Some format) × AwaitsRecord new.limits front × (bytes ≡ (first_line format ++ flat_map spelling records) ++ (front ++ new.tape.rest)) × (length new.tape.rest ≤ 64)
LacksRoom new bytes records answer = Unit {0}

-- the bytes that the reader gave in the call, and what holds of them and of all that it gave before
pub record Given (new : State) (before after : Told) (result : Result (Option Record) LogFault) (bytes : List ℕ) (records : List log.Record) : Type 0 where
  pub piece : List ℕ
  pub read : Gave before after piece
  pub within : length (bytes ++ piece) ≤ new.limits.log + 1
  pub stands : StandsFor new (bytes ++ piece) (records_with records result)
  pub tells : Tells new before after (bytes ++ piece) records result
  pub shows : Shows new after (bytes ++ piece) records result
  pub near : StopsNear new (bytes ++ piece) records result
  pub room : LacksRoom new (bytes ++ piece) records result

abbrev pub Gives : State → State → Told → Told → Result (Option Record) LogFault → Type 0
Gives old new before after result = (bytes : List ℕ) (records : List log.Record) → StandsFor old bytes records → Given new before after result bytes records
