-- What `check` answers and writes, of one log and for one of several.
use Rattle.std.specs.Prelude.{◌≡◌, ◌⊎◌, ℕ, List, Option, Result, Ok, Err, IfOk, ◌==◌, [], ◌∷◌, ◌++◌}
use Rattle.std.specs.Prelude.{Bool, false, codes, if◌then◌else◌}
use Rattle.std.specs.Io.KnownBytes.{IsAtEnd}
use Rattle.std.specs.List.{before_first}
use Rattle.lsp_replay.specs.Common.{BadLog, Bounds, Completeness, Event, Format, IsVerdictBy}
use Rattle.lsp_replay.specs.Common.{log_terms, LogCode, Memory, No, Ports, Read, report, RunFault}
use Rattle.lsp_replay.specs.Common.{verdict_view, Who, Write, Yes}
use Rattle.lsp_verdict.specs.Complete.{IsBroughtToEnd, IsComplete, IsCutShort}
use Rattle.lsp_verdict.specs.Laws.{HasFault, Refuses}
use Rattle.lsp_verdict.specs.Kept.{IsKept}
use Rattle.lsp_verdict.specs.Runs.{CountsFaults, IsOutput, IsSilent, OfInput, AppendsFront}
use Rattle.lsp_verdict.specs.Verdict as spec
use Rattle.lsp_verdict.specs.declared.completeness.Completeness.TheVariants.{Ignored, Required}
use Rattle.lsp_verdict.specs.declared.outcome.Outcome.{Outcome}
use Rattle.lsp_verdict.specs.declared.outcome.Outcome.TheVariants.{Judged}
use Rattle.lsp_verdict.specs.declared.verdict.Summary.{Summary}
use Rattle.lsp_verdict.specs.declared.verdict.Verdict.{Verdict}
use Rattle.lsp_judge.specs.Answered.{IsClean}

-- ---- of one log, whether or not its session must be complete

-- what Yes means: the log is kept, and where it must be, its session was brought to its end
abbrev pub YesMeans : Completeness → Bounds → List ℕ → Type 0
YesMeans Ignored limits log = IsKept limits log
YesMeans Required limits log = IsComplete limits log

-- what a No names: the first event that offends, and its least rule; or the stream that ends inside
-- a frame; or, where it must be complete, what is missing from the session of a log that is kept
abbrev pub NoMeans : Completeness → Bounds → List ℕ → spec.Verdict → Type 0
NoMeans Ignored limits log v = Refuses limits log v
NoMeans Required limits log v = Refuses limits log v ⊎ IsCutShort limits log v

-- the session was brought to its end, where it must be
abbrev pub EndsAsDue : Completeness → List Event → Type 0
EndsAsDue Ignored events = Unit {0}
EndsAsDue Required events = IsBroughtToEnd events

-- the verdict on the log read was found, and a prefix of what is due for it is written
pub record IsCut (completeness : Completeness) (limits : Bounds) (due : spec.Verdict → List ℕ)
    (io : Ports) : Type 0 where
  pub given : spec.Verdict
  pub says : OfInput limits io (λ log. IsVerdictBy completeness limits log given)
  pub writes : AppendsFront io.sink_before io.sink_after (due given)

-- **The answer is the verdict on the log read, and what is due for it is written**
pub record WritesVerdict (completeness : Completeness) (limits : Bounds)
    (due : spec.Verdict → List ℕ) (io : Ports) (result : Result Outcome RunFault) : Type 0 where
  -- The answer holds for the log read, however it continues where its end was not met.
  pub judged : IfOk result (λ outcome. (v : Verdict) × (outcome ≡ Judged v))
  pub verdict : (v : Verdict) → result ≡ Ok (Judged v)
      → OfInput limits io (λ log. IsVerdictBy completeness limits log (verdict_view v))
  -- What is due for that verdict is written, and nothing else.
  pub written : (v : Verdict) → result ≡ Ok (Judged v) → IsOutput io (due (verdict_view v))
  -- Yes means that the end of the log was met.
  pub ended : (s : Summary) → result ≡ Ok (Judged (Yes s)) → IsAtEnd io.source_after.bytes
  -- After a read fault or where memory was refused nothing is written, after a write fault a
  -- prefix.
  pub read_fault : result ≡ Err Read → IsSilent io
  pub memory : result ≡ Err Memory → IsSilent io
  pub write_fault : result ≡ Err Write → IsCut completeness limits due io
  pub counts : CountsFaults limits io result

pub record Checked (completeness : Completeness) (limits : Bounds) (io : Ports)
    (result : Result Outcome RunFault) : Type 0 where
  -- The answer is the verdict on the log read; its report is written.
  pub writes : WritesVerdict completeness limits report io result
  -- Yes means that the log is kept.
  pub yes : (s : Summary) → result ≡ Ok (Judged (Yes s))
      → OfInput limits io (YesMeans completeness limits)
  -- A No names what is wrong first.
  pub no : (rule number event : ℕ) (who : Who) → result ≡ Ok (Judged (No rule who number event))
      → OfInput limits io (λ log. NoMeans completeness limits log (spec.no rule who number event))
  -- A bad log has that fault, and no event before it offends.
  pub bad_log : (number : ℕ) (code : LogCode) → result ≡ Ok (Judged (BadLog number code))
      → OfInput limits io (λ log. HasFault limits log number code)
  -- Yes is answered wherever no event offends, the log has no fault, both streams are complete
  -- frames, and the session ends as it has to.
  pub kept : (v : Verdict) → result ≡ Ok (Judged v)
      → OfInput limits io (λ log. (format : Option Format) (events : List Event)
      → IsClean limits log format events → EndsAsDue completeness events
      → verdict_view v ≡ spec.yes (spec.summary (log_terms limits format) events))

-- ---- for one of several logs

-- the bytes before the first LF
abbrev pub first_line : List ℕ → List ℕ
first_line bytes = before_first (λ byte. byte == 10) bytes

-- the verdict is a Yes for which no snapshot was compared: there is none, or each is unmatched
abbrev pub compared_nothing : spec.Verdict → Bool
compared_nothing (spec.yes s) = s.snapshots == s.unmatched
compared_nothing _ = false

-- what follows the first line of the report
abbrev pub line_remark : spec.Verdict → List ℕ
line_remark v = if compared_nothing v then codes " nothing-compared" else []

-- **the line of a log**: its name, a colon and a space, the first line of the report, what follows
-- it, and LF
abbrev pub line_for : List ℕ → spec.Verdict → List ℕ
line_for name v = name ++ codes ": " ++ first_line (report v) ++ line_remark v ++ 10 ∷ []

-- **what `check` answers and writes for one of several logs**
abbrev pub CheckedLine : Completeness → Bounds → List ℕ → Ports → Result Outcome RunFault → Type 0
CheckedLine completeness limits name io result =
    WritesVerdict completeness limits (line_for name) io result
