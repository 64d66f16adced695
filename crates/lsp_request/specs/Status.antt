-- The exit statuses.
use Rattle.std.specs.Prelude.{ℕ, Bool, false, ◌&&◌, Result, Ok, Err, if◌then◌else◌}
use Rattle.clap.specs.declared.error.kind.ErrorKind.{ErrorKind}
use Rattle.clap.specs.declared.error.kind.ErrorKind.TheVariants as kinds
use Rattle.lsp_extract.specs.declared.event.EventOutcome.{EventOutcome}
use Rattle.lsp_extract.specs.declared.event.EventOutcome.TheVariants as events
use Rattle.lsp_judge.specs.Checked.{compared_nothing}
use Rattle.lsp_request.specs.declared.command_line.task.Request.{Request}
use Rattle.lsp_request.specs.declared.task_outcome.TaskOutcome.{TaskOutcome}
use Rattle.lsp_request.specs.declared.task_outcome.TaskOutcome.TheVariants as tasks
use Rattle.lsp_replay.specs.Common.{BadLog, Memory, No, NoDocument, Read, RunFault, Stream, Unlike}
use Rattle.lsp_replay.specs.Common.{verdict_view, Write, Yes}
use Rattle.lsp_verdict.specs.declared.outcome.Outcome.{Outcome}
use Rattle.lsp_verdict.specs.declared.outcome.Outcome.TheVariants.{Done, Judged}
use Rattle.lsp_verdict.specs.declared.outcome.Outcome.TheVariants.{NoDifference, TooFew}

-- 0 yes or done, 1 no, 2 a bad log or a bad stream, 5 no such document, too few messages, or no
-- texts that differ, 6 a log that can't be redacted
abbrev pub status_of_outcome : Outcome → ℕ
status_of_outcome Done = 0
status_of_outcome (Judged (Yes s)) = 0
status_of_outcome (Judged (No rule who number event)) = 1
status_of_outcome (Judged (BadLog number code)) = 2
status_of_outcome (Stream frame fault) = 2
status_of_outcome NoDocument = 5
status_of_outcome TooFew = 5
status_of_outcome NoDifference = 5
status_of_outcome Unlike = 6

-- 0 done, 2 a bad log, 5 no content, or too few events
abbrev pub status_of_event : EventOutcome → ℕ
status_of_event events.Done = 0
status_of_event (events.BadLog number code) = 2
status_of_event events.NoContent = 5
status_of_event events.FewerEvents = 5

-- 3 a read or write fault, 4 out of memory
abbrev pub status_of_fault : RunFault → ℕ
status_of_fault Read = 3
status_of_fault Write = 3
status_of_fault Memory = 4

abbrev pub status_of : Result Outcome RunFault → ℕ
status_of (Ok outcome) = status_of_outcome outcome
status_of (Err fault) = status_of_fault fault

abbrev pub status_of_task : Result TaskOutcome RunFault → ℕ
status_of_task (Ok (tasks.Run outcome)) = status_of_outcome outcome
status_of_task (Ok (tasks.Event outcome)) = status_of_event outcome
status_of_task (Err fault) = status_of_fault fault

-- a log was judged, and the verdict is a Yes for which no snapshot was compared
abbrev pub outcome_compared_nothing : Outcome → Bool
outcome_compared_nothing (Judged v) = compared_nothing (verdict_view v)
outcome_compared_nothing _ = false

abbrev pub task_compared_nothing : Result TaskOutcome RunFault → Bool
task_compared_nothing (Ok (tasks.Run outcome)) = outcome_compared_nothing outcome
task_compared_nothing _ = false

-- the request wants a snapshot compared, and for the Yes that its task gave none was
abbrev pub lacks_comparison : Request → Result TaskOutcome RunFault → Bool
lacks_comparison request ended = request.compared && task_compared_nothing ended

-- **the status of a request**: that of its task, but 1 for a Yes that lacks a comparison
abbrev pub status_of_request : Request → Result TaskOutcome RunFault → ℕ
status_of_request request ended = if lacks_comparison request ended then 1 else status_of_task ended

-- where the words ask for no run: 0 for help and the version, 4 out of memory, 64 where they don't
-- parse
abbrev pub status_of_words : ErrorKind → ℕ
status_of_words kinds.DisplayHelp = 0
status_of_words kinds.DisplayVersion = 0
status_of_words kinds.OutOfMemory = 4
status_of_words _ = 64
