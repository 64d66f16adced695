-- Laws of logs with their words replaced.
use Rattle.std.specs.Prelude.{◌≡◌, ◌⊎◌, ℕ, List, [], true}
use Rattle.lsp_replay.specs.Common.{Bounds, HasOneOutput, IsInRange, IsVerdict, Unlike}
use Rattle.lsp_replay.specs.RunLaws.{WritesAtItsEnd}
use Rattle.lsp_verdict.specs.Verdict.{Verdict}
use Rattle.lsp_verdict.specs.declared.outcome.Outcome.{Outcome}
use Rattle.lsp_redact.specs.Check.{shows}
use Rattle.lsp_redact.specs.Records.{most_of, written}
use Rattle.lsp_redact.specs.Redacted.{IsRedacted}
use Rattle.lsp_redact.specs.Redacting.{redact_run}
use Rattle.lsp_redact.specs.Shape.{Shape}

-- **Each log has exactly one that is its own with its words replaced**, or none at all.
abbrev pub OneRedacted : Type 0
OneRedacted = (limits : Bounds) → IsInRange limits → HasOneOutput (redact_run limits)

-- **Nothing of it is written before the run ends.**
abbrev pub RedactedAtItsEnd : Type 0
RedactedAtItsEnd = (limits : Bounds) → WritesAtItsEnd (redact_run limits)

-- **It shows the verdict of the log**: it has the same but for names, or is Yes up to a fault of
-- the frames or of the log.
abbrev pub RedactedShowsVerdict : Type 0
RedactedShowsVerdict =
    (limits : Bounds) → IsInRange limits → (log out : List ℕ) (outcome : Outcome) (v : Verdict)
    → IsVerdict limits log v → IsRedacted limits log out outcome → (outcome ≡ Unlike → ⊥)
    → (own : Verdict) × IsVerdict limits out own × (shows v own ≡ true)

-- **It has no word of the log**: it is written of a shape, or is nothing.
abbrev pub RedactedHasNoWord : Type 0
RedactedHasNoWord =
    (limits : Bounds) (log out : List ℕ) (outcome : Outcome) → IsRedacted limits log out outcome
    → (out ≡ []) ⊎ ((left : Shape) × (out ≡ written (most_of limits) left))
