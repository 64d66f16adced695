-- A log with its words replaced.
use Rattle.std.specs.Prelude.{List, ℕ}
use Rattle.lsp_replay.specs.Common.{Bounds, IsPassed}
use Rattle.lsp_verdict.specs.declared.outcome.Outcome.{Outcome}
use Rattle.lsp_redact.specs.Redacting.{redact_run}

-- **this is a log with its words replaced**, and so the run ends that writes it
abbrev pub IsRedacted : Bounds → List ℕ → List ℕ → Outcome → Type 0
IsRedacted limits log out outcome = IsPassed (redact_run limits) limits log out outcome
