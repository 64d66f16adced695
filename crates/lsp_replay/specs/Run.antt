-- **What a run writes of a log**: what it says of each event up to the one where it stops, and else
-- of the end. One definition for all runs.
use Rattle.std.specs.Prelude.{◌≡◌, ◌⊎◌, ℕ, List, [], ◌∷◌, ◌++◌, Bool, true, false, Option, Result}
use Rattle.std.specs.Prelude.{Ok, Err}
use Rattle.lsp_docs.specs.Documents.{Terms}
use Rattle.lsp_frame.specs.Bounds.{Bounds}
use Rattle.lsp_frame.specs.declared.format.Format.{Format}
use Rattle.lsp_frame.specs.Sink.{Stopped, Wrote}
use Rattle.lsp_frame.specs.Told.{Told, Took}
use Rattle.lsp_log.specs.Log.{Record, IsLog}
use Rattle.lsp_log.specs.Place.{place_of, found_behind}
use Rattle.lsp_log.specs.declared.fault.LogCode.{LogCode}
use Rattle.lsp_verdict.specs.Given.{verdict_view}
use Rattle.lsp_replay.specs.LogEvents.{GoesBehind}
use Rattle.lsp_replay.specs.Standing.{CanWantMemory}
use Rattle.lsp_verdict.specs.Heard.{AreRests, Heard, IsHeardSession, Rests, heard_events}
use Rattle.lsp_verdict.specs.Offences.{kept_of}
use Rattle.lsp_verdict.specs.Outcome.{log_terms}
use Rattle.lsp_verdict.specs.Verdict.{Verdict}
use Rattle.lsp_verdict.specs.declared.outcome.Outcome.{Outcome}
use Rattle.lsp_verdict.specs.declared.outcome.Outcome.TheVariants.{Judged}
use Rattle.lsp_verdict.specs.declared.verdict.Verdict as code
use Rattle.lsp_verdict.specs.Runs.{OfRead, Ports, failures_after, sink_failures_after}
use Rattle.lsp_verdict.specs.declared.outcome.RunFault.{RunFault}
use Rattle.lsp_verdict.specs.declared.outcome.RunFault.TheVariants as faults

-- how a log ends: with this fault or none, which comes after so many of its bytes, where this line
-- is; and what is left of the bytes of its sides
pub record Tail : Type 0 where
  pub fault : Option (ℕ × LogCode)
  pub place : ℕ
  pub line : List ℕ
  pub rests : Rests

-- **a run**: what it says of an event after these, whether it may want memory to say or to note it,
-- whether it stops there, and how it ends then; what it says at the end of the log after all of
-- them, and how it ends there
pub record Run : Type 1 where
  pub says : Terms → Rests → List Heard → Heard → List ℕ → Type 0
  pub wants : Terms → List Heard → Heard → Bool
  pub stops : Terms → List Heard → Heard → Bool
  pub ends : Terms → List Heard → Heard → Outcome → Type 0
  pub closes : Terms → List Heard → Tail → List ℕ → Type 0
  pub finishes : Terms → List Heard → Tail → Outcome → Type 0

-- this is said of these events after those before them, and the run stops at none
abbrev pub SaysAll : Run → Terms → Rests → List Heard → List Heard → List ℕ → Type 0
SaysAll run terms rests before [] out = out ≡ []
SaysAll run terms rests before (h ∷ later) out =
    (said : List ℕ) × (left : List ℕ) × (out ≡ said ++ left) × run.says terms rests before h said
    × (run.stops terms before h ≡ false) × SaysAll run terms rests (before ++ h ∷ []) later left

-- ---- how a run ends

-- it stops at the event after these
pub record StopsAt (run : Run) (terms : Terms) (rests : Rests) (before : List Heard) (h : Heard)
    (said : List ℕ) (outcome : Outcome) : Type 0 where
  pub says : run.says terms rests before h said
  pub stops : run.stops terms before h ≡ true
  pub ends : run.ends terms before h outcome

-- it stops at one of these events
pub record StopsIn (run : Run) (terms : Terms) (rests : Rests) (heard : List Heard)
    (out : List ℕ) (outcome : Outcome) : Type 0 where
  pub first : List Heard
  pub here : Heard
  pub later : List Heard
  pub are : heard ≡ first ++ here ∷ later
  pub front : List ℕ
  pub last : List ℕ
  pub is : out ≡ front ++ last
  pub said : SaysAll run terms rests [] first front
  pub stop : StopsAt run terms rests first here last outcome

-- this is what the run says at the end of the log, and so it ends
abbrev pub ClosesSo : Run → Terms → List Heard → Tail → List ℕ → Outcome → Type 0
ClosesSo run terms heard tail said outcome =
    run.closes terms heard tail said × run.finishes terms heard tail outcome

-- it stops at none, and ends with the log
pub record EndsAfter (run : Run) (terms : Terms) (tail : Tail) (heard : List Heard)
    (out : List ℕ) (outcome : Outcome) : Type 0 where
  pub front : List ℕ
  pub last : List ℕ
  pub is : out ≡ front ++ last
  pub said : SaysAll run terms tail.rests [] heard front
  pub closes : ClosesSo run terms heard tail last outcome

-- it ends with this verdict
abbrev pub IsJudged : Verdict → Outcome → Type 0
IsJudged v outcome = (given : code.Verdict) × (outcome ≡ Judged given) × (verdict_view given ≡ v)

-- ---- where memory may be wanted

-- at the event after these: to hear it, or by the run
abbrev pub WantsAt : Run → Terms → List Heard → Heard → Type 0
WantsAt run terms before h =
    CanWantMemory terms (kept_of terms (heard_events before)) h.raw
    ⊎ (run.wants terms before h ≡ true)

-- at the first of these that come next; where none does, to read on or for what is said at the end
abbrev pub WantsNext : Run → Terms → List Heard → List Heard → Type 0
WantsNext run terms before [] = Unit {0}
WantsNext run terms before (h ∷ due) = WantsAt run terms before h

-- ---- a log

-- a log of this format, its records, its events, and how it ends
pub record IsTold (limits : Bounds) (log : List ℕ) (format : Option Format)
    (records : List Record) (heard : List Heard) (tail : Tail) : Type 0 where
  pub is_log : IsLog limits log format records tail.fault
  pub session : IsHeardSession limits records heard
  pub rests : AreRests limits records tail.rests
  pub place : tail.place ≡ place_of format records
  pub line : tail.line ≡ found_behind limits format records log

-- **this is what a run writes of a log, and how it ends**
pub record IsPassed (run : Run) (limits : Bounds) (log out : List ℕ) (outcome : Outcome) : Type 0
  where
    pub format : Option Format
    pub records : List Record
    pub heard : List Heard
    pub tail : Tail
    pub told : IsTold limits log format records heard tail
    pub is : StopsIn run (log_terms limits format) tail.rests heard out outcome
        ⊎ EndsAfter run (log_terms limits format) tail heard out outcome

-- **this is what a run says of the first events of a log**, at none of which it stops
pub record HasSaid (run : Run) (limits : Bounds) (log out : List ℕ) : Type 0 where
  pub format : Option Format
  pub records : List Record
  pub first : List Heard
  pub later : List Heard
  pub tail : Tail
  pub told : IsTold limits log format records (first ++ later) tail
  pub says : SaysAll run (log_terms limits format) tail.rests [] first out

-- **memory was refused after this was said of a log**: of some of its first records the events are
-- those of which it was said, and those that are due; and memory may be wanted for what comes next
pub record RanOut (run : Run) (limits : Bounds) (log out : List ℕ) : Type 0 where
  pub said : HasSaid run limits log out
  pub read : List Record
  pub goes : GoesBehind read said.records
  pub due : List Heard
  pub session : IsHeardSession limits read (said.first ++ due)
  pub wants : WantsNext run (log_terms limits said.format) said.first due

-- ---- what a pass writes and answers

-- what the run writes of the log read was written, and so it ended
pub record AllPassed (run : Run) (limits : Bounds) (start now old new : Told)
    (outcome : Outcome) : Type 0 where
  pub out : List ℕ
  pub wrote : Wrote old new out
  pub due : OfRead limits start now (λ log. IsPassed run limits log out outcome)
  pub failures : now.failures ≡ start.failures

-- after a write fault: a front of what was to be written, which is something, and is all that is
-- said of the first events, or of the whole log
pub record IsCut (run : Run) (limits : Bounds) (start now : Told) (out : List ℕ) : Type 0 where
  pub left : List ℕ
  pub some : out ++ left ≡ [] → ⊥
  pub due : OfRead limits start now (λ log. HasSaid run limits log (out ++ left))
      ⊎ ((outcome : Outcome) × OfRead limits start now
      (λ log. IsPassed run limits log (out ++ left) outcome))

-- what was written before a fault
abbrev pub DueAt : RunFault → Run → Bounds → Told → Told → List ℕ → Type 0
DueAt faults.Read run limits start now out =
    OfRead limits start now (λ log. HasSaid run limits log out)
DueAt faults.Write run limits start now out = IsCut run limits start now out
DueAt faults.Memory run limits start now out =
    OfRead limits start now (λ log. RanOut run limits log out)

-- a fault met
pub record PartPassed (run : Run) (limits : Bounds) (start now old new : Told) (fault : RunFault)
    : Type 0 where
  pub out : List ℕ
  pub took : Took old new out
  pub due : DueAt fault run limits start now out
  pub source : now.failures ≡ failures_after fault start.failures
  pub sink : new.failures ≡ sink_failures_after fault old.failures
  -- where there was nothing to say, the sink was not called
  pub quiet : (fault ≡ faults.Write → ⊥) → out ≡ [] → new ≡ old

-- **what a pass of this run writes and answers**: all, or after a fault a part
abbrev pub Passes : Run → Bounds → Told → Told → Told → Told → Result Outcome RunFault → Type 0
Passes run limits start now old new (Ok outcome) = AllPassed run limits start now old new outcome
Passes run limits start now old new (Err fault) = PartPassed run limits start now old new fault

-- **the same on these ports**
abbrev pub PassesOn : Run → Bounds → Ports → Result Outcome RunFault → Type 0
PassesOn run limits io result =
    Passes run limits io.source_before io.source_after io.sink_before io.sink_after result

-- ---- a step

-- there is an answer and what is due for it: it is written, or after a write fault a prefix of it;
-- where memory was refused, nothing is written, and this holds
abbrev pub Steps : {X : Type 0} → Told → Told → Type 0 → (X → List ℕ → Type 0)
    → Result X RunFault → Type 0
Steps old new Wants Due (Ok answer) =
    (said : List ℕ) × Due answer said × Wrote old new said × (said ≡ [] → new ≡ old)
Steps {X} old new Wants Due (Err faults.Write) =
    (answer : X) × (said : List ℕ) × Due answer said × Stopped old new said × (said ≡ [] → ⊥)
Steps old new Wants Due (Err faults.Memory) = (new ≡ old) × Wants
Steps old new Wants Due (Err faults.Read) = ⊥
