-- What is said on standard error of how a run ended.
use Rattle.std.specs.Prelude.{ℕ, List, Option, Some, None, Result, Ok, Err, codes}
use Rattle.lsp_replay.specs.Common.{bad_log, Canonical, Memory, NoDocument, Read, report, RunFault}
use Rattle.lsp_replay.specs.Common.{Stream, Unlike, verdict_view, Write, Yes}
use Rattle.lsp_verdict.specs.Report.{stream_report}
use Rattle.lsp_extract.specs.declared.event.EventOutcome.TheVariants as events
use Rattle.lsp_request.specs.declared.task_outcome.TaskOutcome.{TaskOutcome}
use Rattle.lsp_request.specs.declared.task_outcome.TaskOutcome.TheVariants as tasks
use Rattle.lsp_verdict.specs.declared.outcome.Outcome.{Outcome}
use Rattle.lsp_verdict.specs.declared.outcome.Outcome.TheVariants.{Judged}
use Rattle.lsp_verdict.specs.declared.outcome.Outcome.TheVariants.{NoDifference, TooFew}
use Rattle.lsp_verdict.specs.declared.verdict.Verdict.{Verdict}
use Rattle.lsp_request.specs.declared.command_line.task.Task.{Task}
use Rattle.lsp_request.specs.declared.command_line.task.Rewrite.TheVariants.{Upgrade}
use Rattle.lsp_request.specs.declared.command_line.task.Task.TheVariants.{Compared, Frames, Rewrite}
use Rattle.lsp_request.specs.declared.command_line.task.Task.TheVariants.{Text}

-- the fixed words for how a task ended
abbrev pub remark_of : Result TaskOutcome RunFault → Option (List ℕ)
remark_of (Ok (tasks.Run NoDocument)) = Some (codes "no such document")
remark_of (Ok (tasks.Run TooFew)) = Some (codes "fewer editor messages")
remark_of (Ok (tasks.Run NoDifference)) =
    Some (codes "no texts differ: the verdict is neither 608 nor 702")
remark_of (Ok (tasks.Run Unlike)) =
    Some (codes "this log can't be redacted: without its words it has another verdict")
remark_of (Ok (tasks.Event events.NoContent)) = Some (codes "no content")
remark_of (Ok (tasks.Event events.FewerEvents)) = Some (codes "fewer events")
remark_of (Ok _) = None
remark_of (Err Read) = Some (codes "lspcheck: read fault")
remark_of (Err Write) = Some (codes "lspcheck: write fault")
remark_of (Err Memory) = Some (codes "lspcheck: out of memory")

-- the report of a verdict other than Yes
abbrev pub report_refused : Verdict → Option (List ℕ)
report_refused (Yes s) = None
report_refused v = Some (report (verdict_view v))

-- the report that is separate from what was requested: that of a verdict in `text`, `normal`
-- and `redact` and where one of two texts is written, of one other than Yes in `upgrade`, and that
-- of a stream in `frames --as canonical`
abbrev pub run_report_apart : Task → Outcome → Option (List ℕ)
run_report_apart (Text number uri extent) (Judged v) = Some (report (verdict_view v))
run_report_apart (Compared which) (Judged v) = Some (report (verdict_view v))
run_report_apart (Rewrite Upgrade) (Judged v) = report_refused v
run_report_apart (Rewrite rewrite) (Judged v) = Some (report (verdict_view v))
run_report_apart (Frames Canonical) (Stream frame fault) = Some (stream_report frame fault)
run_report_apart task outcome = None

-- and that of a fault of the log before the event that was asked for
abbrev pub report_apart : Task → TaskOutcome → Option (List ℕ)
report_apart task (tasks.Run outcome) = run_report_apart task outcome
report_apart task (tasks.Event (events.BadLog number fault)) = Some (report (bad_log number fault))
report_apart task (tasks.Event outcome) = None
