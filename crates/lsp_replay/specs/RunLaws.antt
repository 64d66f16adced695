-- Laws of runs: each log has one output, what is answered is the verdict, and what was written
-- before a fault.
use Rattle.std.specs.Prelude.{◌≡◌, ◌⊎◌, ℕ, List, [], ◌∷◌, ◌++◌, true, false, Option, Some}
use Rattle.std.specs.Prelude.{None, IfSome}
use Rattle.std.specs.Io.KnownBytes.{IsAtEnd}
use Rattle.lsp_docs.specs.Documents.{Terms}
use Rattle.lsp_frame.specs.Bounds.{Bounds, IsInRange}
use Rattle.lsp_frame.specs.Told.{Told}
use Rattle.lsp_frame.specs.declared.format.Format.{Format}
use Rattle.lsp_log.specs.Log.{Record}
use Rattle.lsp_replay.specs.Run.{AllPassed, IsPassed, IsTold, PartPassed, Run, Tail}
use Rattle.lsp_verdict.specs.Complete.{IsVerdictBy}
use Rattle.lsp_verdict.specs.Given.{summary_view, verdict_view}
use Rattle.lsp_verdict.specs.Heard.{Heard, heard_events}
use Rattle.lsp_verdict.specs.Outcome.{log_terms}
use Rattle.lsp_verdict.specs.Runs.{OfRead}
use Rattle.lsp_verdict.specs.Verdict as verdicts
use Rattle.lsp_verdict.specs.declared.completeness.Completeness.{Completeness}
use Rattle.lsp_verdict.specs.declared.outcome.Outcome.{Outcome}
use Rattle.lsp_verdict.specs.declared.outcome.Outcome.TheVariants.{Judged}
use Rattle.lsp_verdict.specs.declared.outcome.RunFault.{RunFault}
use Rattle.lsp_verdict.specs.declared.outcome.RunFault.TheVariants as faults
use Rattle.lsp_verdict.specs.declared.verdict.Summary.{Summary}
use Rattle.lsp_verdict.specs.declared.verdict.Verdict as code
use Rattle.lsp_verdict.specs.declared.verdict.Verdict.TheVariants.{Yes}

-- ---- each log has one output

-- this is said of the events that come after these, up to the one where the run stops, and else of
-- the end; where it is known how the run ends, it ends so
abbrev pub SaysOn : Run → Terms → Tail → List Heard → List Heard → List ℕ → Option Outcome → Type 0
SaysOn run terms tail before [] out ended =
    run.closes terms before tail out × IfSome ended (run.finishes terms before tail)
SaysOn run terms tail before (h ∷ later) out ended =
    ((run.stops terms before h ≡ true) × run.says terms tail.rests before h out
    × IfSome ended (run.ends terms before h))
    ⊎ ((run.stops terms before h ≡ false)
    × ((said : List ℕ) × (left : List ℕ) × (out ≡ said ++ left)
    × run.says terms tail.rests before h said
    × SaysOn run terms tail (before ++ h ∷ []) later left ended))

-- **this is all that a run says of a log**, and so it ends, where that is known
pub record IsAllSaid (run : Run) (limits : Bounds) (log out : List ℕ) (ended : Option Outcome)
    : Type 0 where
  pub format : Option Format
  pub records : List Record
  pub heard : List Heard
  pub tail : Tail
  pub told : IsTold limits log format records heard tail
  pub says : SaysOn run (log_terms limits format) tail [] heard out ended

-- the outcomes are the same, or one verdict
abbrev pub IsSameEnd : Outcome → Outcome → Type 0
IsSameEnd (Judged v) (Judged w) = verdict_view v ≡ verdict_view w
IsSameEnd a b = a ≡ b

-- where both are known
abbrev pub EndAlike : Option Outcome → Option Outcome → Type 0
EndAlike None ended = Unit {0}
EndAlike (Some a) None = Unit {0}
EndAlike (Some a) (Some b) = IsSameEnd a b

-- the program can hold this summary: its lists are short enough for memory, and its texts are texts
abbrev pub CanHold : verdicts.Summary → Type 0
CanHold s = (held : Summary) × (summary_view held ≡ s)

-- it can hold that of this log
abbrev pub FitsSummary : Bounds → List ℕ → Type 0
FitsSummary limits log =
    (format : Option Format) (records : List Record) (heard : List Heard) (tail : Tail)
    → IsTold limits log format records heard tail
    → CanHold (verdicts.summary (log_terms limits format) (heard_events heard))

-- **Each log has exactly one output of this run**, which ends in one way, and does so where the
-- summary of the log fits; and that is what a pass writes and answers.
pub record HasOneOutput (run : Run) : Type 0 where
  pub some : (limits : Bounds) (log : List ℕ) → (out : List ℕ) × IsAllSaid run limits log out None
  pub ends : (limits : Bounds) (log out : List ℕ) → IsAllSaid run limits log out None
      → FitsSummary limits log → (outcome : Outcome) × IsAllSaid run limits log out (Some outcome)
  pub one : (limits : Bounds) → IsInRange limits → (log out other : List ℕ)
      (ended finished : Option Outcome) → IsAllSaid run limits log out ended
      → IsAllSaid run limits log other finished → (out ≡ other) × EndAlike ended finished
  pub passed : (limits : Bounds) (log out : List ℕ) (outcome : Outcome)
      → IsPassed run limits log out outcome → IsAllSaid run limits log out (Some outcome)

-- ---- what is answered

-- the verdict on the log is answered
abbrev pub AnswersBy : Completeness → Bounds → List ℕ → Outcome → Type 0
AnswersBy completeness limits log outcome =
    (given : code.Verdict) × (outcome ≡ Judged given)
    × IsVerdictBy completeness limits log (verdict_view given)

-- **What this run answers is the verdict on the log**, and Yes only where the log's end was met.
pub record AnswersVerdict (completeness : Completeness) (run : Run) : Type 0 where
  pub verdict : (limits : Bounds) → IsInRange limits → (log out : List ℕ) (outcome : Outcome)
      → IsPassed run limits log out outcome → AnswersBy completeness limits log outcome
  pub ended : (limits : Bounds) → IsInRange limits → (start now old new : Told) (s : Summary)
      → AllPassed run limits start now old new (Judged (Yes s)) → IsAtEnd now.bytes

-- ---- what was written before a fault

-- **This run writes nothing before it ends**: after a read fault or where memory was refused
-- nothing is written, and after a write fault a front of all that it says.
pub record WritesAtItsEnd (run : Run) : Type 0 where
  pub silent : (limits : Bounds) (start now old new : Told) (fault : RunFault)
      → (fault ≡ faults.Write → ⊥) → PartPassed run limits start now old new fault → new ≡ old
  pub cut : (limits : Bounds) (start now old new : Told)
      → (p : PartPassed run limits start now old new faults.Write)
      → (outcome : Outcome) × (left : List ℕ)
      × OfRead limits start now (λ log. IsPassed run limits log (p.out ++ left) outcome)
