-- The normal form of a log: each content as its canonical frame, in records that are full but for
-- the last, and each snapshot as it is.
use Rattle.std.specs.Prelude.{◌≡◌, ℕ, ◌+◌, List, [], ◌∷◌, ◌++◌, length, map, filter, Bool, true}
use Rattle.std.specs.Prelude.{false, Option, Some, None, Result, chars, option_map, Ok, Err, ◌≤◌}
use Rattle.std.specs.Prelude.{nat_le, ◌&&◌}
use Rattle.std.specs.Int.{div_ceil}
use Rattle.std.specs.List.{flat_map}
use Rattle.std.specs.Option.{option_or}
use Rattle.std.specs.Simd.{first_chunks}
use Rattle.lsp_replay.specs.Common.{AreCounts, as_given, bad_log, bad_log_of, Bounds, broken}
use Rattle.lsp_replay.specs.Common.{canonical, chunk, content, Counts, Ending, ending, Event}
use Rattle.lsp_replay.specs.Common.{first_line, first_of, Format, format_or_one, HasRest, IsInRange}
use Rattle.lsp_replay.specs.Common.{IsLog, IsVerdict, joined, LogCode, no, Placed, Ports, RunFault}
use Rattle.lsp_replay.specs.Common.{same_side, show, shown, Side, spelling, Tells, Told}
use Rattle.lsp_replay.specs.Common.{verdict_view, who_of, yes}
use Rattle.lsp_frame.specs.Sink.{Wrote}
use Rattle.lsp_types.specs.declared.side.Side.TheVariants.{Editor, Server}
use Rattle.lsp_types.specs.declared.rules.TheConstants as rules
use Rattle.lsp_log.specs.Log.{Record}
use Rattle.lsp_verdict.specs.declared.outcome.Outcome.{Outcome}
use Rattle.lsp_verdict.specs.declared.outcome.Outcome.TheVariants.{Done, Judged}
use Rattle.lsp_verdict.specs.Placed.{Raw}
use Rattle.lsp_verdict.specs.Verdict.{Verdict}
use Rattle.lsp_verdict.specs.Event as event
use Rattle.lsp_verdict.specs.declared.verdict.Verdict.TheVariants as verdicts
use Rattle.lsp_replay.specs.declared.log_events.End.{End}
use Rattle.lsp_replay.specs.declared.log_events.End.TheVariants.{Sound, Bad}
use Rattle.lsp_replay.specs.declared.log_events.LogEvents.{LogEvents}
use Rattle.lsp_extract.specs.Written.{WritesDue}

-- ---- what is written

-- the bytes in pieces of this size, the last of which may be shorter
abbrev pub cut : ℕ → List ℕ → List (List ℕ)
cut size bytes = first_chunks size (div_ceil (length bytes) size) bytes

-- bytes of a side as records that are full at this size but for the last
abbrev pub chunks : ℕ → Side → List ℕ → List Record
chunks size side bytes = map (chunk side) (cut size bytes)

-- the records of the events up to the first fault of the frames
abbrev pub records_of : ℕ → List Raw → List Record
records_of size [] = []
records_of size (content side bytes ∷ raws) =
    chunks size side (canonical bytes) ++ records_of size raws
records_of size (show number uri text ∷ raws) = shown number uri text ∷ records_of size raws
records_of size (broken side rule ∷ raws) = []

-- the first line of a log of this format, and these records
abbrev pub form_of : Format → ℕ → List Raw → List ℕ
form_of format size raws = first_line format ++ flat_map spelling (records_of size raws)

-- ---- how it ends

abbrev pub is_of : Side → Raw → Bool
is_of side (content by bytes) = same_side side by
is_of side (broken by rule) = same_side side by
is_of side (show number uri text) = false

-- No by this rule at the event that comes next, with the number that the side's next message has
abbrev pub no_next : ℕ → Side → List Raw → Verdict
no_next rule side before =
    no rule (who_of side) (length (filter (is_of side) before) + 1) (length before + 1)

abbrev pub no_at : List Raw → Raw → Option Verdict
no_at before (broken side rule) = Some (no_next rule side before)
no_at before _ = None

-- No at the first fault of the frames
abbrev pub first_broken : List Raw → Option Verdict
first_broken raws = first_of no_at raws

-- 107 where bytes are left that are not a whole frame, the editor's first
abbrev pub rest_of : List Raw → Bool → Bool → Option Verdict
rest_of raws true server = Some (no_next rules.STREAM_ENDS_INSIDE_FRAME Editor raws)
rest_of raws false true = Some (no_next rules.STREAM_ENDS_INSIDE_FRAME Server raws)
rest_of raws false false = None

-- the first by place: a fault of the frames, a fault of the log, a rest
abbrev pub fault_of : List Raw → Ending → Option Verdict
fault_of raws end = option_or (first_broken raws)
    (option_or (bad_log_of end.log_fault) (rest_of raws end.editor_rest end.server_rest))

-- ---- the normal form of a log

-- **the normal form of a log**: its events up to the first fault of the frames, in the format of
-- the log, and the fault that ends it, or none; where the log has no first line, that of format 1
pub record IsNormal (limits : Bounds) (log out : List ℕ) (fault : Option Verdict) : Type 0 where
  pub format : Option Format
  pub records : List Record
  pub log_fault : Option (ℕ × LogCode)
  pub raws : List Raw
  pub editor : List ℕ
  pub server : List ℕ
  pub is_log : IsLog limits log format records log_fault
  pub placed : Placed limits records raws
  pub editor_rest : HasRest limits (joined Editor records) editor
  pub server_rest : HasRest limits (joined Server records) server
  pub ends : fault_of raws (ending log_fault editor server) ≡ fault
  pub written : out ≡ form_of (format_or_one format) limits.chunk raws

-- ---- a run

-- the outcome carries the fault as its verdict
abbrev pub Carries : Outcome → Option Verdict → Type 0
Carries Done fault = fault ≡ None
Carries (Judged v) fault = fault ≡ Some (verdict_view v)
Carries _ fault = ⊥

-- this is the normal form of the log, and the outcome carries the fault that ends it, if any
abbrev pub EndsNormal : Bounds → List ℕ → List ℕ → Outcome → Type 0
EndsNormal limits log out outcome =
    (fault : Option Verdict) × IsNormal limits log out fault × Carries outcome fault

-- the normal form of the log begins with these bytes
abbrev pub BeginsNormal : Bounds → List ℕ → List ℕ → Type 0
BeginsNormal limits log written =
    (out : List ℕ) (fault : Option Verdict) → IsNormal limits log out fault
    → (left : List ℕ) × (out ≡ written ++ left)

-- **what `normal` answers and writes**; all was well only where the end of the log was met
abbrev pub Normalizes : Bounds → Ports → Result Outcome RunFault → Type 0
Normalizes limits io result =
    WritesDue limits io Done (EndsNormal limits) (BeginsNormal limits) result

-- ---- the steps of a run

-- an event that replaces one that is not read, by which it is counted
abbrev pub mark : Raw → Event
mark (content side bytes) = event.fault side 0
mark (broken side rule) = event.fault side rule
mark (show number uri text) = event.snapshot uri number (chars text)

abbrev pub Counted : Counts → List Raw → Type 0
Counted counts raws = AreCounts counts (map mark raws)

-- the outcome carries the fault as its verdict, its numbers as they are counted
abbrev pub CarriesCapped : Outcome → Option Verdict → Type 0
CarriesCapped outcome fault = Carries outcome (option_map as_given fault)

-- the records of these events, as they are written
abbrev pub spelled : ℕ → List Raw → List ℕ
spelled size raws = flat_map spelling (records_of size raws)

-- ---- a step past one event

-- its records are written and it is counted; or it is a fault of the frames, and the outcome
-- carries the No at it
abbrev pub WritesEvent : ℕ → Counts → Told → Told → List Raw → Raw
    → Result (Option Outcome) RunFault → Type 0
WritesEvent size counts old new before raw (Ok None) =
    (no_at before raw ≡ None) × Counted counts (before ++ raw ∷ [])
    × Wrote old new (spelled size (raw ∷ []))
WritesEvent size counts old new before raw (Ok (Some outcome)) =
    (new ≡ old) × ((verdict : Verdict) × (no_at before raw ≡ Some verdict)
    × CarriesCapped outcome (Some verdict))
WritesEvent size counts old new before raw (Err fault) =
    (no_at before raw ≡ None) × Tells old new (spelled size (raw ∷ [])) (Err fault)

-- ---- a step past the events of a log

-- the outcome is that of a log that ends after these records, which bring these events, without a
-- fault
pub record EndsWhole (limits : Bounds) (records : List Record) (raws : List Raw)
    (outcome : Outcome) : Type 0 where
  pub editor : List ℕ
  pub server : List ℕ
  pub editor_rest : HasRest limits (joined Editor records) editor
  pub server_rest : HasRest limits (joined Server records) server
  pub carries : CarriesCapped outcome (fault_of raws (ending None editor server))

-- the outcome is that of a log that ends so after these records
abbrev pub EndsLog : Bounds → List Record → List Raw → End → Outcome → Type 0
EndsLog limits records raws Sound outcome = EndsWhole limits records raws outcome
EndsLog limits records raws (Bad number fault) outcome =
    outcome ≡ Judged (verdicts.BadLog number fault)

-- the first line of the log's format is written
abbrev pub WroteHead : LogEvents → Told → Told → Type 0
WroteHead e old new = Wrote old new (first_line (format_or_one e.log.format))

-- ---- laws

-- **Every log has a normal form**, whatever its bytes.
abbrev pub SomeNormalForm : Type 0
SomeNormalForm = (limits : Bounds) (log : List ℕ)
    → (out : List ℕ) × (fault : Option Verdict) × IsNormal limits log out fault

-- **And it has one**, which ends with one fault or none.
abbrev pub OneNormalForm : Type 0
OneNormalForm = (limits : Bounds) → IsInRange limits
    → (log out other : List ℕ) (f g : Option Verdict) → IsNormal limits log out f
    → IsNormal limits log other g → (out ≡ other) × (f ≡ g)

-- the events before the first fault of the frames
abbrev pub before_fault : List Raw → List Raw
before_fault [] = []
before_fault (content side bytes ∷ raws) = content side bytes ∷ before_fault raws
before_fault (broken side rule ∷ raws) = []
before_fault (show number uri text ∷ raws) = show number uri text ∷ before_fault raws

-- **Its events are those of the log before a fault**, where its length is within the limit of a
-- log, and it is a log of the same format without a fault.
abbrev pub NormalFormKeepsEvents : Type 0
NormalFormKeepsEvents = (limits : Bounds) → IsInRange limits
    → (log out : List ℕ) (format : Option Format) (rs : List Record) (flaw : Option (ℕ × LogCode))
    (raws : List Raw) (fault : Option Verdict)
    → IsLog limits log format rs flaw → Placed limits rs raws → IsNormal limits log out fault
    → length out ≤ limits.log
    → (us : List Record) × IsLog limits out (Some (format_or_one format)) us None
    × Placed limits us (before_fault raws)

-- **It is its own normal form**, and ends without a fault.
abbrev pub NormalFormStays : Type 0
NormalFormStays = (limits : Bounds) → IsInRange limits → (log out : List ℕ) (fault : Option Verdict)
    → IsNormal limits log out fault → length out ≤ limits.log → IsNormal limits out out None

-- 101 to 107: a fault of the frames, or bytes that are not a whole frame
abbrev pub is_frame_rule : ℕ → Bool
is_frame_rule rule =
    nat_le rules.HEADER_PART_TOO_LONG rule && nat_le rule rules.STREAM_ENDS_INSIDE_FRAME

-- a verdict on messages and snapshots, and not on the frames or the log that hold them
abbrev pub IsOnEvents : Verdict → Type 0
IsOnEvents (yes s) = Unit {0}
IsOnEvents (no rule who number event) = is_frame_rule rule ≡ false
IsOnEvents (bad_log number code) = ⊥

-- **It has the verdict of the log**, where that is on messages and snapshots.
abbrev pub NormalFormKeepsVerdict : Type 0
NormalFormKeepsVerdict =
    (limits : Bounds) → IsInRange limits → (log out : List ℕ) (fault : Option Verdict) (v : Verdict)
    → IsVerdict limits log v → IsOnEvents v → IsNormal limits log out fault
    → length out ≤ limits.log → IsVerdict limits out v
