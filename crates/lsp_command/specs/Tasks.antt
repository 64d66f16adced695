-- What each task answers and writes, and how it ends.
use Rattle.std.specs.Prelude.{Result, Ok, Err, ◌≡◌, ℕ, List, [], OnOk}
use Rattle.std.specs.Int.NonZero.{non_zero_u64_get}
use Rattle.lsp_extract.specs.declared.event.EventOutcome.{EventOutcome}
use Rattle.lsp_extract.specs.Event.{GivesEvent}
use Rattle.lsp_extract.specs.Normal.{Normalizes}
use Rattle.lsp_judge.specs.Checked.{Checked, CheckedLine}
use Rattle.lsp_judge.specs.JudgingRun.{check_run, show_run}
use Rattle.lsp_judge.specs.Objects.{CheckedObject}
use Rattle.lsp_judge.specs.ShownLog.{Showed, UpgradesLog}
use Rattle.lsp_extract.specs.Stream.{RunsFrames}
use Rattle.lsp_verdict.specs.declared.outcome.Outcome.{Outcome}
use Rattle.lsp_verdict.specs.declared.outcome.RunFault.{RunFault}
use Rattle.lsp_verdict.specs.Runs.{Ports, failures_read as source_failures}
use Rattle.lsp_verdict.specs.Runs.{failures_written as sink_failures}
use Rattle.lsp_verdict.specs.Shown.{AnswersText}
use Rattle.lsp_verdict.specs.declared.outcome.RunFault.TheVariants as faults
use Rattle.lsp_frame.specs.Bounds.{Bounds}
use Rattle.lsp_frame.specs.Told.{Told, CountsFailure, KeepsBytes}
use Rattle.lsp_frame.specs.declared.io.Failed.{Failed}
use Rattle.lsp_replay.specs.JsonRun.{WritesJson, run_in}
use Rattle.lsp_replay.specs.Run.{PassesOn}
use Rattle.lsp_replay.specs.TextAnswers.{WritesText}
use Rattle.lsp_replay.specs.declared.form.Form.TheVariants as forms
use Rattle.lsp_explain.specs.ExplainRuns.{all_run, explain_run}
use Rattle.lsp_explain.specs.Compared.{compared_run}
use Rattle.lsp_explain.specs.NotedRun.{noted_run}
use Rattle.lsp_redact.specs.Redacting.{redact_run}
use Rattle.lsp_survey.specs.KeptText.{kept_text_run}
use Rattle.lsp_survey.specs.SurveyRun.{report_run, show_all_run}
use Rattle.lsp_request.specs.declared.task_outcome.TaskOutcome.{TaskOutcome}
use Rattle.lsp_request.specs.declared.task_outcome.TaskOutcome.TheVariants as outcomes
use Rattle.lsp_request.specs.declared.command_line.task.Explanation.TheVariants as explanations
use Rattle.lsp_request.specs.declared.command_line.task.Extent.TheVariants.{All, First}
use Rattle.lsp_request.specs.declared.command_line.task.Report.TheVariants as reports
use Rattle.lsp_request.specs.declared.command_line.task.Rewrite.TheVariants.{Normal, Redact, Upgrade}
use Rattle.lsp_request.specs.declared.command_line.task.Task.{Task}
use Rattle.lsp_request.specs.declared.command_line.task.Task.TheVariants.{Check, Compared, Event}
use Rattle.lsp_request.specs.declared.command_line.task.Task.TheVariants.{Explain, Frames, Rewrite}
use Rattle.lsp_request.specs.declared.command_line.task.Task.TheVariants.{Show, Text}

-- ---- how a task ends, by how its run ended

abbrev pub of_run : Result Outcome RunFault → Result TaskOutcome RunFault
of_run (Ok outcome) = Ok (outcomes.Run outcome)
of_run (Err fault) = Err fault

abbrev pub of_event : Result EventOutcome RunFault → Result TaskOutcome RunFault
of_event (Ok outcome) = Ok (outcomes.Event outcome)
of_event (Err fault) = Err fault

-- ---- each task: what the run of its name does with its arguments

-- the run over a log or a stream answers so, and the task as it does
abbrev pub EndsRun : (Result Outcome RunFault → Type 0) → Result TaskOutcome RunFault → Type 0
EndsRun Ends result = (ended : Result Outcome RunFault) × (result ≡ of_run ended) × Ends ended

-- **each task is the run of its name**, with its arguments, on this input and into this output
abbrev pub Answers : Bounds → Task → Ports → Result TaskOutcome RunFault → Type 0
Answers limits (Check completeness reports.Verdict forms.Lines) p result =
    EndsRun (Checked completeness limits p) result
Answers limits (Check completeness reports.Verdict forms.Json) p result =
    EndsRun (WritesJson (check_run completeness) limits p) result
Answers limits (Check completeness (reports.Line name) forms.Lines) p result =
    EndsRun (CheckedLine completeness limits name.now p) result
Answers limits (Check completeness (reports.Line file) forms.Json) p result =
    EndsRun (CheckedObject completeness limits file.now p) result
Answers limits (Check completeness (reports.Offences listing) form) p result =
    EndsRun (PassesOn (run_in form (report_run completeness listing)) limits p) result
Answers limits (Explain completeness explanations.Verdict form) p result =
    EndsRun (PassesOn (run_in form (explain_run completeness)) limits p) result
Answers limits (Explain completeness explanations.All form) p result =
    EndsRun (PassesOn (run_in form (all_run completeness)) limits p) result
Answers limits (Explain completeness explanations.AllWithNotes form) p result =
    EndsRun (PassesOn (run_in form (noted_run completeness)) limits p) result
Answers limits (Compared which) p result = EndsRun (PassesOn (compared_run which) limits p) result
Answers limits (Show lines First forms.Lines) p result = EndsRun (Showed lines limits p) result
Answers limits (Show lines First forms.Json) p result =
    EndsRun (WritesJson (show_run lines) limits p) result
Answers limits (Show lines All form) p result =
    EndsRun (PassesOn (run_in form (show_all_run lines)) limits p) result
Answers limits (Text number uri First) p result = EndsRun
    (WritesText limits p (λ log. AnswersText limits log (non_zero_u64_get number) uri.now)) result
Answers limits (Text number uri All) p result =
    EndsRun (PassesOn (kept_text_run (non_zero_u64_get number) uri.now) limits p) result
Answers limits (Event number) p result =
    (ended : Result EventOutcome RunFault) × (result ≡ of_event ended)
    × GivesEvent limits p (non_zero_u64_get number) ended
Answers limits (Rewrite Normal) p result = EndsRun (Normalizes limits p) result
Answers limits (Rewrite Upgrade) p result = EndsRun (UpgradesLog limits p) result
Answers limits (Rewrite Redact) p result = EndsRun (PassesOn (redact_run limits) limits p) result
Answers limits (Frames mode) p result = EndsRun (RunsFrames mode limits p) result

-- a task is done, and fails where the source or the sink counted a failure
pub record RanTask (limits : Bounds) (task : Task) (p : Ports)
    (result : Result TaskOutcome RunFault) : Type 0 where
  pub answers : Answers limits task p result
  pub source_failures : p.source_after.failures ≡ source_failures result p.source_before.failures
  pub sink_failures : p.sink_after.failures ≡ sink_failures result p.sink_before.failures

-- what is answered where a task ended so and its output was then flushed with this answer: a write
-- fault where the task ended well and the flush failed, else how the task ended
abbrev pub handed_on : Result TaskOutcome RunFault → Result (Unit {0}) Failed
    → Result TaskOutcome RunFault
handed_on (Ok outcome) (Err failed) = Err faults.Write
handed_on (Ok outcome) (Ok done) = Ok outcome
handed_on (Err fault) flushed = Err fault

-- the task was done, and then what it had written was passed on, whether or not it ended well; this
-- much of it is left
pub record RanThrough (limits : Bounds) (task : Task) (p : Ports) (left : List ℕ)
    (result : Result TaskOutcome RunFault) : Type 0 where
  pub gathered : Told
  pub ended : Result TaskOutcome RunFault
  pub ran : RanTask limits task (record p { sink_after = gathered }) ended
  pub kept : KeepsBytes gathered p.sink_after
  pub flushed : Result (Unit {0}) Failed
  pub failures : CountsFailure gathered.failures p.sink_after.failures flushed
  pub emptied : OnOk flushed (left ≡ [])
  pub answer : result ≡ handed_on ended flushed
