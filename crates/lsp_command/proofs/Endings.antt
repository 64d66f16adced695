-- A task fails where its run does.
use Rattle.std.proofs.Common.{◌≡◌, Result, Ok, Err, subst, sym}
use Rattle.lsp_frame.specs.Bounds.{Bounds}
use Rattle.lsp_extract.specs.declared.event.EventOutcome.{EventOutcome}
use Rattle.lsp_verdict.specs.Runs.{CountsFaults, Ports, failures_read as source_failures}
use Rattle.lsp_verdict.specs.Runs.{failures_written as sink_failures}
use Rattle.lsp_verdict.specs.declared.outcome.Outcome.{Outcome}
use Rattle.lsp_verdict.specs.declared.outcome.RunFault.{RunFault}
use Rattle.lsp_replay.specs.Run.{PassesOn, Run}
use Rattle.lsp_command.specs.Tasks.{Answers, RanTask, of_event, of_run}
use Rattle.lsp_request.specs.declared.command_line.task.Task.{Task}
use Rattle.lsp_request.specs.declared.task_outcome.TaskOutcome.{TaskOutcome}

module _ (limits : Bounds) (task : Task) (p : Ports) (result : Result TaskOutcome RunFault) where
  -- what is counted after this end is counted after this result
  ran_as : (end : Result TaskOutcome RunFault) → result ≡ end
      → p.source_after.failures ≡ source_failures end p.source_before.failures
      → p.sink_after.failures ≡ sink_failures end p.sink_before.failures
      → Answers limits task p result → RanTask limits task p result
  ran_as end is source sink answers = record {
    answers = answers;
    source_failures = subst (λ (r : Result TaskOutcome RunFault). p.source_after.failures
        ≡ source_failures r p.source_before.failures) (sym is) source;
    sink_failures = subst (λ (r : Result TaskOutcome RunFault). p.sink_after.failures
        ≡ sink_failures r p.sink_before.failures) (sym is) sink;
  }

  pub run_ended : (ended : Result Outcome RunFault) → result ≡ of_run ended
      → CountsFaults limits p ended → Answers limits task p result → RanTask limits task p result
  run_ended (Ok outcome) is counts = ran_as _ is counts.source_failures counts.sink_failures
  run_ended (Err fault) is counts = ran_as _ is counts.source_failures counts.sink_failures

  -- of a run that does what its definition says
  pub passed : (run : Run) (ended : Result Outcome RunFault) → result ≡ of_run ended
      → PassesOn run limits p ended → Answers limits task p result → RanTask limits task p result
  passed run (Ok outcome) is passes = ran_as _ is passes.failures passes.wrote.failures
  passed run (Err fault) is passes = ran_as _ is passes.source passes.sink

  pub event_ended : (ended : Result EventOutcome RunFault) → result ≡ of_event ended
      → CountsFaults limits p ended → Answers limits task p result → RanTask limits task p result
  event_ended (Ok outcome) is counts = ran_as _ is counts.source_failures counts.sink_failures
  event_ended (Err fault) is counts = ran_as _ is counts.source_failures counts.sink_failures
