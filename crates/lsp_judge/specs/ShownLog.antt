-- What `show` writes of a log, and what `upgrade` does.
use Rattle.std.specs.Prelude.{◌≡◌, List, ◌++◌, ℕ, Result}
use Rattle.lsp_replay.specs.Common.{Bounds, IsInRange, IsVerdict, Lines, Ports, RunFault}
use Rattle.lsp_verdict.specs.declared.outcome.Outcome.{Outcome}
use Rattle.lsp_verdict.specs.Runs.{Judges}
use Rattle.lsp_verdict.specs.Shown.{show_of}
use Rattle.lsp_verdict.specs.Verdict.{Verdict}
use Rattle.lsp_verdict.specs.Upgraded.{IsUpgraded, BeginsUpgraded}

-- ---- a log that is shown: a line for each event before the verdict's place, and the report

-- **what is due for a log**: the lines of the events before the verdict's place, short or long, and
-- the report
abbrev pub IsShown : Lines → Bounds → List ℕ → Verdict → List ℕ → Type 0
IsShown lines limits log v out =
    (whole : IsVerdict limits log v) × (out ≡ show_of lines v whole.final.events)

-- these bytes begin what is due for a log
abbrev pub BeginsShown : Lines → Bounds → List ℕ → List ℕ → Type 0
BeginsShown lines limits log front =
    (v : Verdict) × (left : List ℕ) × IsShown lines limits log v (front ++ left)

-- **what `show` answers and writes**
abbrev pub Showed : Lines → Bounds → Ports → Result Outcome RunFault → Type 0
Showed lines limits io result =
    Judges limits io (IsVerdict limits) (IsShown lines limits) (BeginsShown lines limits) result

-- **Every log has an output for each kind of line**
abbrev pub SomeShown : Type 0
SomeShown = (lines : Lines) (limits : Bounds) (log : List ℕ)
    → (v : Verdict) × (out : List ℕ) × IsShown lines limits log v out

-- **One verdict is shown of a log, and with lines of one kind one output**
abbrev pub OneShown : Type 0
OneShown = (lines : Lines) (limits : Bounds) → IsInRange limits
    → (log : List ℕ) (v w : Verdict) (out other : List ℕ) → IsShown lines limits log v out
    → IsShown lines limits log w other → (v ≡ w) × (out ≡ other)

-- ---- a log that is upgraded: its records in format 2, as they are accepted

-- **what `upgrade` answers and writes**
abbrev pub UpgradesLog : Bounds → Ports → Result Outcome RunFault → Type 0
UpgradesLog limits io result =
    Judges limits io (IsVerdict limits) (IsUpgraded limits) (BeginsUpgraded limits) result
