use Rattle.lsp_command.proofs.Endings.{event_ended, passed, run_ended}
use Rattle.lsp_command.proofs.run.run_task.Goals as goal

pub returns-in-Check : goal.returns-in-Check
returns-in-Check g c = rw c.in-Check.is (rw c.of_run.ensures c.check.ensures)

pub returns-in-Explain : goal.returns-in-Explain
returns-in-Explain g c = rw c.in-Explain.is (rw c.of_run-in-Explain.ensures c.explain.ensures)

pub returns-in-Compared : goal.returns-in-Compared
returns-in-Compared g c =
    let is = c.run_compared.ensures.passes in
    let of = c.of_run-in-Compared.ensures in
    rw c.in-Compared.is (record { ran = passed _ _ _ _ _ _ of is (_, of, is) })

pub returns-in-Show : goal.returns-in-Show
returns-in-Show g c = rw c.in-Show.is (rw c.of_run-in-Show.ensures c.show.ensures)

pub returns-in-Text : goal.returns-in-Text
returns-in-Text g c = rw c.in-Text.is (rw c.of_run-in-Text.ensures c.text.ensures)

pub returns-in-Event : goal.returns-in-Event
returns-in-Event g c =
    let is = rw c.get.ensures.value at c.run_event.ensures.gives in
    let of = c.of_event.ensures in
    rw c.in-Event.is (record { ran = event_ended _ _ _ _ _ of is.writes.counts (_, of, is) })

pub returns-in-Rewrite : goal.returns-in-Rewrite
returns-in-Rewrite g c = rw c.in-Rewrite.is (rw c.of_run-in-Rewrite.ensures c.rewrite.ensures)

pub returns-in-Frames : goal.returns-in-Frames
returns-in-Frames g c =
    let is = c.run_frames.ensures.framed in
    let of = c.of_run-in-Frames.ensures in
    rw c.in-Frames.is (record { ran = run_ended _ _ _ _ _ of is.counts (_, of, is) })
