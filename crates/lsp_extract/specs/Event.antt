-- The content of one event of a log.
use Rattle.std.specs.Prelude.{◌≡◌, ℕ, ◌-◌, List, [], ◌++◌, Option, Some, None, slice_get, Result}
use Rattle.std.specs.Prelude.{Err, ◌+◌, length}
use Rattle.lsp_replay.specs.Common.{Bounds, broken, content, Format, IsInRange, IsLog, IsVerdict}
use Rattle.lsp_replay.specs.Common.{LogCode, Placed, Ports, Reads, RunFault, show, Told}
use Rattle.lsp_log.specs.Log.{Record}
use Rattle.lsp_verdict.specs.Placed.{Raw}
use Rattle.lsp_verdict.specs.Runs.{IsSilent}
use Rattle.lsp_verdict.specs.declared.outcome.RunFault.TheVariants as faults
use Rattle.lsp_verdict.specs.Event as verdict
use Rattle.lsp_verdict.specs.Verdict.{Verdict}
use Rattle.lsp_replay.specs.LogEvents as log_events
use Rattle.lsp_replay.specs.declared.log_events.LogEvents.{LogEvents}
use Rattle.lsp_extract.specs.declared.event.EventOutcome.{EventOutcome}
use Rattle.lsp_extract.specs.declared.event.EventOutcome.TheVariants.{Done, NoContent, FewerEvents}
use Rattle.lsp_extract.specs.declared.event.EventOutcome.TheVariants.{BadLog}
use Rattle.lsp_extract.specs.Written.{WritesDue}

-- ---- one event

-- what an event holds: the content of a message, or the text of a snapshot; a fault of the frames
-- holds nothing
abbrev pub content_of : Raw → List ℕ
content_of (content side bytes) = bytes
content_of (broken side rule) = []
content_of (show number uri text) = text

-- how a run ends that was asked for this event
abbrev pub outcome_of : Raw → EventOutcome
outcome_of (content side bytes) = Done
outcome_of (broken side rule) = NoContent
outcome_of (show number uri text) = Done

-- how it ends where there is no such event: a fault of the log is named
abbrev pub without : Option (ℕ × LogCode) → EventOutcome
without None = FewerEvents
without (Some flaw) = BadLog flaw.0 flaw.1

abbrev pub content_at : Option Raw → List ℕ
content_at None = []
content_at (Some raw) = content_of raw

abbrev pub outcome_at : Option Raw → Option (ℕ × LogCode) → EventOutcome
outcome_at None flaw = without flaw
outcome_at (Some raw) flaw = outcome_of raw

-- the n-th event, from 1
abbrev pub event_at : ℕ → List Raw → Option Raw
event_at n raws = slice_get raws (n - 1)

-- ---- the event of a log

-- **what is due for the n-th event of a log**, whatever of its events offends: what this event
-- holds, and how the run ends
pub record IsEvent (limits : Bounds) (log : List ℕ) (n : ℕ) (out : List ℕ)
    (outcome : EventOutcome) : Type 0 where
  pub format : Option Format
  pub records : List Record
  pub log_fault : Option (ℕ × LogCode)
  pub raws : List Raw
  pub is_log : IsLog limits log format records log_fault
  pub placed : Placed limits records raws
  pub written : out ≡ content_at (event_at n raws)
  pub ends : outcome ≡ outcome_at (event_at n raws) log_fault

-- these bytes begin what is due for the n-th event of a log
abbrev pub BeginsEvent : Bounds → List ℕ → ℕ → List ℕ → Type 0
BeginsEvent limits log n front =
    (outcome : EventOutcome) × (left : List ℕ) × IsEvent limits log n (front ++ left) outcome

-- **what `event` answers and writes**
pub record GivesEvent (limits : Bounds) (io : Ports) (number : ℕ)
    (result : Result EventOutcome RunFault) : Type 0 where
  -- That there are fewer events is known only at the end of the log.
  pub writes : WritesDue limits io FewerEvents (λ log. IsEvent limits log number)
      (λ log. BeginsEvent limits log number) result
  -- After a read fault or where memory was refused nothing is written.
  pub read_fault : result ≡ Err faults.Read → IsSilent io
  pub memory : result ≡ Err faults.Memory → IsSilent io

-- ---- the steps of a run that looks for it

-- this many events are still to come before the n-th of the log is past
pub record HasPassed (limits : Bounds) (e : LogEvents) (start now : Told) (n left : ℕ) : Type 0
  where
    pub format : Option Format
    pub records : List Record
    pub given : List Raw
    pub due : List Raw
    pub reads : log_events.Reads limits format e start now records given due
    pub count : left + length given ≡ n

-- ---- laws

-- **For each log and number something is due.**
abbrev pub SomeEvent : Type 0
SomeEvent = (limits : Bounds) (log : List ℕ) (n : ℕ)
    → (out : List ℕ) × (outcome : EventOutcome) × IsEvent limits log n out outcome

-- **And one thing only.**
abbrev pub OneEvent : Type 0
OneEvent = (limits : Bounds) → IsInRange limits
    → (log : List ℕ) (n : ℕ) (out other : List ℕ) (a b : EventOutcome)
    → IsEvent limits log n out a → IsEvent limits log n other b → (out ≡ other) × (a ≡ b)

-- **Events are numbered as a verdict numbers them**: the n-th event of the verdict on a log is the
-- reading of the content that is due for n.
abbrev pub EventIsNumbered : Type 0
EventIsNumbered = (limits : Bounds) → IsInRange limits
    → (log : List ℕ) (v : Verdict) (n : ℕ) (event : verdict.Event) (out : List ℕ)
    (outcome : EventOutcome) → (whole : IsVerdict limits log v)
    → slice_get whole.final.events (n - 1) ≡ Some event → IsEvent limits log n out outcome
    → (raw : Raw) × Reads raw event × (out ≡ content_of raw) × (outcome ≡ outcome_of raw)
