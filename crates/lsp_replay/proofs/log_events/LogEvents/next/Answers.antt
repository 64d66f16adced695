use Rattle.std.proofs.Common.{refl}
use Rattle.lsp_replay.proofs.Pulling.{lent_event}
use Rattle.lsp_replay.proofs.log_events.LogEvents.next.Goals as goal

pub returns-in-Ok-Event : goal.returns-in-Ok-Event
returns-in-Ok-Event g c = (
  (
    refl,
    λ s. tt,
    λ limits format start records given due h.
        let finds = rw c.in-Ok-Event.field-0-is at
        (c.in-Ok-Event.ensures.answer limits format start records given due h) in
        let gave = lent_event limits format c.find.new.self start _ records given c.in-Ok-Event.due _
        c.lend.ensures.raw finds in
        (gave.0, gave.1, gave.2, (c.lend.ensures.rest, gave.3)),
  ),
  record { lends = tt },
)
