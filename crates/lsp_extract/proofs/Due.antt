-- How a run ends that has something due for its input.
use Rattle.std.proofs.Common.{◌≡◌, List, ℕ, Ok, Err}
use Rattle.std.specs.Io.KnownBytes.{IsAtEnd}
use Rattle.lsp_replay.specs.Common.{Bounds, failures_after, Ports, RunFault, sink_failures_after}
use Rattle.lsp_verdict.specs.Runs.{OutputFor}
use Rattle.lsp_verdict.proofs.RunsJudged.{read_within}
use Rattle.lsp_extract.specs.Written.{WritesDue}

module _ {X : Type 0} (limits : Bounds) (io : Ports) (at_end : X)
    (IsDue : List ℕ → List ℕ → X → Type 0) (Begins : List ℕ → List ℕ → Type 0) where
  -- all that is due was written
  pub due_written : (outcome : X) → OutputFor limits io (λ input out. IsDue input out outcome)
      → (outcome ≡ at_end → IsAtEnd io.source_after.bytes)
      → io.source_after.failures ≡ io.source_before.failures
      → io.sink_after.failures ≡ io.sink_before.failures
      → WritesDue limits io at_end IsDue Begins (Ok outcome)
  due_written outcome written ended source sink = record {
    written = written;
    ended = λ is. ended (cc is);
    fault = tt;
    counts = record {
      source_failures = source;
      sink_failures = sink;
      limit = read_within _ _ _ _ written.2;
    };
  }

  -- a fault ended the run
  pub due_begun : (fault : RunFault) → OutputFor limits io Begins
      → io.source_after.failures ≡ failures_after fault io.source_before.failures
      → io.sink_after.failures ≡ sink_failures_after fault io.sink_before.failures
      → WritesDue limits io at_end IsDue Begins (Err fault)
  due_begun fault begun source sink = record {
    written = tt;
    ended = λ is. absurd (cc is);
    fault = begun;
    counts = record {
      source_failures = source;
      sink_failures = sink;
      limit = read_within _ _ _ _ begun.2;
    };
  }
