-- What a run writes that has something due for its input, whatever the outcome is.
use Rattle.std.specs.Prelude.{◌≡◌, List, ℕ, Result, Ok, IfOk, OnErr}
use Rattle.std.specs.Io.KnownBytes.{IsAtEnd}
use Rattle.lsp_replay.specs.Common.{Bounds, Ports, RunFault}
use Rattle.lsp_verdict.specs.Runs.{CountsFaults, OutputFor}

-- **What is due for the input is written, and the outcome is the one that is due with it**: what is
-- due, what begins that, and the outcome that is known only at the end of the input
pub record WritesDue {X : Type 0} (limits : Bounds) (io : Ports) (at_end : X)
    (IsDue : List ℕ → List ℕ → X → Type 0) (Begins : List ℕ → List ℕ → Type 0)
    (result : Result X RunFault) : Type 0 where
  -- It is due for the input read, however it continues where its end was not met, and nothing else
  -- is written.
  pub written : IfOk result (λ outcome. OutputFor limits io (λ input out. IsDue input out outcome))
  -- That outcome is answered only where the end was met.
  pub ended : result ≡ Ok at_end → IsAtEnd io.source_after.bytes
  -- What is written before a fault begins what is due.
  pub fault : OnErr result (OutputFor limits io Begins)
  pub counts : CountsFaults limits io result
