-- What a run reads, writes and answers, and how its failures count.
use Rattle.std.specs.Prelude.{◌≡◌, ℕ, ◌+◌, ◌≤◌, List, [], ◌++◌, length, Bool, true, Result, Ok, Err}
use Rattle.std.specs.Prelude.{Option, Some, None, IfOk, OnErr}
use Rattle.std.specs.Io.KnownBytes.{IsAtEnd}
use Rattle.lsp_frame.specs.Bounds.{Bounds}
use Rattle.lsp_frame.specs.Sink.{Wrote, Stopped}
use Rattle.lsp_frame.specs.Told.{Told, Gave, Took, after_failure}
use Rattle.lsp_frame.specs.declared.decoder.PullFault.{PullFault}
use Rattle.lsp_frame.specs.declared.decoder.PullFault.TheVariants as pulls
use Rattle.lsp_frame.specs.declared.format.Format.{Format}
use Rattle.lsp_log.specs.Log.{Record, IsLog}
use Rattle.lsp_log.specs.Place.{place_of, found_behind}
use Rattle.lsp_log.specs.Reader as reader
use Rattle.lsp_log.specs.Reader.{kept_by, shown_by, StandsFor}
use Rattle.lsp_log.specs.declared.fault.LogCode.{LogCode}
use Rattle.lsp_verdict.specs.declared.outcome.RunFault.{RunFault}
use Rattle.lsp_verdict.specs.declared.outcome.RunFault.TheVariants as faults
use Rattle.lsp_verdict.specs.Given.{verdict_view}
use Rattle.lsp_verdict.specs.Verdict as spec
use Rattle.lsp_verdict.specs.declared.outcome.Outcome.{Outcome}
use Rattle.lsp_verdict.specs.declared.outcome.Outcome.TheVariants.{Judged}
use Rattle.lsp_verdict.specs.declared.verdict.Summary.{Summary}
use Rattle.lsp_verdict.specs.declared.verdict.Verdict.{Verdict}
use Rattle.lsp_verdict.specs.declared.verdict.Verdict.TheVariants.{Yes}

-- ---- what is read and written

-- what a source gave, which is no more than one byte past the limit, and whether its end was met
pub record HasRead (limits : Bounds) (before after : Told) (bytes : List ℕ) (ended : Bool) : Type 0 where
  pub gave : Gave before after bytes
  pub no_further : length bytes ≤ limits.log + 1
  pub end : ended ≡ true → IsAtEnd after.bytes

-- the stream begins with the bytes read, and is no more than they where its end was met
abbrev pub GoesOn : List ℕ → Bool → List ℕ → Type 0
GoesOn bytes ended stream = (more : List ℕ) × (stream ≡ bytes ++ more) × (ended ≡ true → more ≡ [])

-- this holds of the stream read, however it continues where its end was not met
pub record OfRead (limits : Bounds) (before after : Told) (Holds : List ℕ → Type 0) : Type 0 where
  pub bytes : List ℕ
  pub ended : Bool
  pub read : HasRead limits before after bytes ended
  pub holds : (stream : List ℕ) → GoesOn bytes ended stream → Holds stream

-- a source gave at most this many bytes
abbrev pub GaveAtMost : ℕ → Told → Told → Type 0
GaveAtMost most before after = (bytes : List ℕ) × Gave before after bytes × (length bytes ≤ most)

-- a prefix of these bytes is written
abbrev pub AppendsFront : Told → Told → List ℕ → Type 0
AppendsFront old new due = (front : List ℕ) × (back : List ℕ) × (due ≡ front ++ back) × Took old new front

-- these bytes are written, or after a write fault a prefix of them, or none where memory was
-- refused
abbrev pub Tells : Told → Told → List ℕ → Result (Unit {0}) RunFault → Type 0
Tells old new bytes (Ok u) = Wrote old new bytes
Tells old new bytes (Err faults.Write) = Stopped old new bytes
Tells old new bytes (Err faults.Memory) = new ≡ old
Tells old new bytes (Err faults.Read) = ⊥

-- ---- failures

-- the fault of a run whose decoder could not pull
abbrev pub of_pull : PullFault → RunFault
of_pull pulls.Read = faults.Read
of_pull pulls.Memory = faults.Memory

-- a source has failed once more after a read fault, and no more after anything else
abbrev pub failures_after : RunFault → ℕ → ℕ
failures_after faults.Read before = after_failure before
failures_after _ before = before

abbrev pub failures_read : {X : Type 0} → Result X RunFault → ℕ → ℕ
failures_read (Ok answer) before = before
failures_read (Err fault) before = failures_after fault before

-- a sink has failed once more after a write fault, and no more after anything else
abbrev pub sink_failures_after : RunFault → ℕ → ℕ
sink_failures_after faults.Write before = after_failure before
sink_failures_after _ before = before

abbrev pub failures_written : {X : Type 0} → Result X RunFault → ℕ → ℕ
failures_written (Ok answer) before = before
failures_written (Err fault) before = sink_failures_after fault before

-- reading broke off, before anything was written: the source gave no more than it may, and it alone
-- may have failed
pub record BreaksOff (limits : Bounds) (start now : Told) (fault : RunFault) : Type 0 where
  pub of_read : OfRead limits start now (λ log. Unit {0})
  pub failures : now.failures ≡ failures_after fault start.failures
  pub unwritten : fault ≡ faults.Write → ⊥

-- ---- what source and sink tell before a run and after it

pub record Ports : Type 0 where
  pub source_before : Told
  pub source_after : Told
  pub sink_before : Told
  pub sink_after : Told

-- what a source tells before and after, and then a sink
abbrev pub ports : Told → Told → Told → Told → Ports
ports source_before source_after sink_before sink_after = record {
  source_before = source_before;
  source_after = source_after;
  sink_before = sink_before;
  sink_after = sink_after;
}

-- this holds of the bytes read, however they continue where their end was not met
abbrev pub OfInput : Bounds → Ports → (List ℕ → Type 0) → Type 0
OfInput limits io Holds = OfRead limits io.source_before io.source_after Holds

-- these bytes were written, and no other
abbrev pub IsOutput : Ports → List ℕ → Type 0
IsOutput io out = Took io.sink_before io.sink_after out

-- bytes were written of which, and of the bytes read, this holds
abbrev pub OutputFor : Bounds → Ports → (List ℕ → List ℕ → Type 0) → Type 0
OutputFor limits io Due = (out : List ℕ) × IsOutput io out × OfInput limits io (λ log. Due log out)

-- nothing was written
abbrev pub IsSilent : Ports → Type 0
IsSilent io = io.sink_after ≡ io.sink_before

-- a fault is answered exactly where the source or the sink counted one, and at most one byte past
-- the limit is read
pub record CountsFaults {X : Type 0} (limits : Bounds) (io : Ports)
    (result : Result X RunFault) : Type 0 where
  pub source_failures : io.source_after.failures ≡ failures_read result io.source_before.failures
  pub sink_failures : io.sink_after.failures ≡ failures_written result io.sink_before.failures
  pub limit : GaveAtMost (limits.log + 1) io.source_before io.source_after

-- ---- what is known of the log read

-- of the bytes that the source gave since the start, the reader of a log gave these records, and no
-- end; with a record it knows the format
pub record IsAt (r : reader.State) (start now : Told) (records : List Record) : Type 0 where
  pub bytes : List ℕ
  pub gave : Gave start now bytes
  pub failures : now.failures ≡ start.failures
  pub unread : kept_by r ≡ None
  pub early : r.format ≡ None → records ≡ []
  pub stands : StandsFor r bytes records

-- a format is the one known, where one is
abbrev pub IsKnown : Option Format → Option Format → Type 0
IsKnown None format = Unit {0}
IsKnown (Some known) format = format ≡ Some known

-- a log has the format known, and these records first
pub record HasFirst (limits : Bounds) (known : Option Format) (records : List Record) (log : List ℕ) : Type 0 where
  pub format : Option Format
  pub more : List Record
  pub fault : Option (ℕ × LogCode)
  pub is_log : IsLog limits log format (records ++ more) fault
  pub is_known : IsKnown known format

-- reading broke off after these records, where so much of the format was known, and nothing was
-- written
pub record BrokeOff (limits : Bounds) (start now : Told) (known : Option Format) (records : List Record) (fault : RunFault) : Type 0 where
  pub of_read : OfRead limits start now (HasFirst limits known records)
  pub failures : now.failures ≡ failures_after fault start.failures
  pub unwritten : fault ≡ faults.Write → ⊥

-- the log has its fault after these records, and the reader of it knows how many bytes come before
-- that, and the line that is there
pub record ShowsFault (r : reader.State) (limits : Bounds) (records : List Record) (fault : ℕ × LogCode) (log : List ℕ) : Type 0 where
  pub is_log : IsLog limits log r.format records (Some fault)
  pub place_is : r.place ≡ place_of r.format records
  pub line_is : shown_by r ≡ found_behind limits r.format records log

-- ---- what a run that judges a log answers and writes

-- **The answer is the verdict on the log read, and what is due for the two is written**: which
-- verdict is right for a log, what is due for both, and what begins that for some verdict
pub record Judges (limits : Bounds) (io : Ports) (IsRight : List ℕ → spec.Verdict → Type 0)
    (IsDue : List ℕ → spec.Verdict → List ℕ → Type 0) (Begins : List ℕ → List ℕ → Type 0)
    (result : Result Outcome RunFault) : Type 0 where
  -- The answer holds for the log read, however it continues where its end was not met.
  pub judged : IfOk result (λ outcome. (v : Verdict) × (outcome ≡ Judged v))
  pub verdict : (v : Verdict) → result ≡ Ok (Judged v)
      → OfInput limits io (λ log. IsRight log (verdict_view v))
  -- What is due for that log is written, and nothing else.
  pub written : (v : Verdict) → result ≡ Ok (Judged v)
      → OutputFor limits io (λ log. IsDue log (verdict_view v))
  -- Yes is answered only where the log's end was met.
  pub ended : (s : Summary) → result ≡ Ok (Judged (Yes s)) → IsAtEnd io.source_after.bytes
  -- What is written before a fault begins what is due for the log.
  pub fault : OnErr result (OutputFor limits io Begins)
  pub counts : CountsFaults limits io result
