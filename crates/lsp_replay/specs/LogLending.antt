-- What a reader of events is once the event that it lent is given back.
use Rattle.std.specs.Prelude.{Result}
use Rattle.std.specs.Borrow.{MutBor, Fml}
use Rattle.std.specs.Io.BufRead.{Rests}
use Rattle.lsp_frame.specs.Told.{Told}
use Rattle.lsp_replay.specs.LogEvents.{NextIs}
use Rattle.lsp_replay.specs.contracts.log_events.LogEvents.{the_row}
use Rattle.lsp_replay.specs.declared.log_events.LogEvents.{LogEvents}
use Rattle.lsp_replay.specs.declared.log_events.Next.{Next}
use Rattle.lsp_verdict.specs.declared.outcome.RunFault.{RunFault}

abbrev pub LendsNext : MutBor LogEvents → Told → Told → Result Next RunFault → Fml
LendsNext e before now result = Rests the_row e (λ new. NextIs e.now new before now result)
