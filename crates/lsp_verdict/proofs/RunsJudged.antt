-- What holds of the stream that a run has read.
use Rattle.std.proofs.Common.{ℕ, ◌+◌, List, ◌≡◌, Result, Ok, Err, refl, subst}
use Rattle.lsp_frame.specs.Bounds.{Bounds, IsInRange}
use Rattle.lsp_frame.specs.Told.{Told}
use Rattle.lsp_verdict.specs.Runs.{OfRead, GaveAtMost, failures_after, sink_failures_after, OfInput}
use Rattle.lsp_verdict.specs.Runs.{OutputFor, Ports, Judges}
use Rattle.lsp_verdict.specs.Complete.{IsVerdictBy}
use Rattle.lsp_verdict.specs.Given.{verdict_view}
use Rattle.lsp_verdict.specs.Outcome.{IsVerdict}
use Rattle.lsp_verdict.specs.Verdict as spec
use Rattle.lsp_verdict.specs.declared.completeness.Completeness.{Completeness}
use Rattle.lsp_verdict.specs.declared.completeness.Completeness.TheVariants.{Ignored, Required}
use Rattle.lsp_verdict.specs.declared.outcome.Outcome.{Outcome}
use Rattle.lsp_verdict.specs.declared.outcome.Outcome.TheVariants.{Judged}
use Rattle.lsp_verdict.specs.declared.outcome.RunFault.{RunFault}
use Rattle.lsp_verdict.specs.declared.outcome.RunFault.TheVariants as faults
use Rattle.lsp_verdict.specs.declared.verdict.Verdict.{Verdict}
use Rattle.lsp_verdict.specs.declared.verdict.Verdict.TheVariants.{Yes}
use Rattle.lsp_verdict.proofs.Completing.{plain_yes}
use Rattle.lsp_verdict.proofs.Logs.Ends.{yes_at_end}

-- what follows from it holds too
pub read_map : (limits : Bounds) (before after : Told) (P Q : List ℕ → Type 0) → ((stream : List ℕ) → P stream → Q stream) → OfRead limits before after P → OfRead limits before after Q
read_map limits before after P Q f p = record { bytes = p.bytes; ended = p.ended; read = p.read; holds = λ stream goes. f stream (p.holds stream goes) }

-- no more was read than the limit lets
pub read_within : (limits : Bounds) (before after : Told) (P : List ℕ → Type 0) → OfRead limits before after P → GaveAtMost (limits.log + 1) before after
read_within limits before after P p = (p.bytes, p.read.gave, p.read.no_further)

-- ---- how a run that judges a log ends: with a verdict and all that is due, or with a fault

-- a fault of the reader or of memory, where no write failed
pub unwritten_sink : (fault : RunFault) (old new : ℕ) → (fault ≡ faults.Write → ⊥) → new ≡ old
    → new ≡ sink_failures_after fault old
unwritten_sink faults.Write old new none same = absurd (none refl)
unwritten_sink _ old new none same = same

-- this holds of the verdict that is judged
pub judged_as : (given v : Verdict) (P : Verdict → Type 0)
    → (let outcome : Result Outcome RunFault = Ok (Judged given) in outcome) ≡ Ok (Judged v)
    → P given → P v
judged_as given v P e p = let same : given ≡ v = cc e in subst P same p

-- the verdict was found, and all that is due was written; of a Yes that is right, a plain Yes is
pub judges : (limits : Bounds) → IsInRange limits → (io : Ports)
    (IsRight : List ℕ → spec.Verdict → Type 0) (IsDue : List ℕ → spec.Verdict → List ℕ → Type 0)
    (Begins : List ℕ → List ℕ → Type 0) (v : Verdict)
    → OfInput limits io (λ log. IsRight log (verdict_view v))
    → OutputFor limits io (λ log. IsDue log (verdict_view v))
    → ((log : List ℕ) (s : spec.Summary) → IsRight log (spec.yes s)
    → IsVerdict limits log (spec.yes s))
    → io.source_after.failures ≡ io.source_before.failures
    → io.sink_after.failures ≡ io.sink_before.failures
    → Judges limits io IsRight IsDue Begins (Ok (Judged v))
judges limits sizes io IsRight IsDue Begins v right due plain source sink = record {
  judged = (v, refl);
  verdict = λ w e. judged_as v w (λ x. OfInput limits io (λ log. IsRight log (verdict_view x))) e
      right;
  written = λ w e. judged_as v w (λ x. OutputFor limits io (λ log. IsDue log (verdict_view x))) e
      due;
  ended = λ s e. yes_at_end limits sizes _ _ _ (read_map limits _ _
      (λ log. IsRight log (verdict_view (Yes s))) _ (λ log. plain log _)
      (judged_as v (Yes s) (λ x. OfInput limits io (λ log. IsRight log (verdict_view x))) e right));
  fault = tt;
  counts = record {
    source_failures = source;
    sink_failures = sink;
    limit = read_within _ _ _ _ right;
  };
}

-- a fault ended the run
pub judged_not : (limits : Bounds) (io : Ports) (IsRight : List ℕ → spec.Verdict → Type 0)
    (IsDue : List ℕ → spec.Verdict → List ℕ → Type 0) (Begins : List ℕ → List ℕ → Type 0)
    (fault : RunFault) → OutputFor limits io Begins
    → io.source_after.failures ≡ failures_after fault io.source_before.failures
    → io.sink_after.failures ≡ sink_failures_after fault io.sink_before.failures
    → Judges limits io IsRight IsDue Begins (Err fault)
judged_not limits io IsRight IsDue Begins fault begun source sink = record {
  judged = tt;
  verdict = λ v e. absurd (cc e);
  written = λ v e. absurd (cc e);
  ended = λ s e. absurd (cc e);
  fault = begun;
  counts = record {
    source_failures = source;
    sink_failures = sink;
    limit = read_within _ _ _ _ begun.2;
  };
}

-- a Yes that is right whether or not the session has to be complete is a plain one
pub plain_by : (completeness : Completeness) (limits : Bounds) (log : List ℕ) (s : spec.Summary)
    → IsVerdictBy completeness limits log (spec.yes s) → IsVerdict limits log (spec.yes s)
plain_by Ignored limits log s says = says
plain_by Required limits log s says = plain_yes limits log s says
