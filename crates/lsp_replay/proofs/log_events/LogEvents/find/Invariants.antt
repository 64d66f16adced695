use Rattle.std.proofs.Common.{List, Option}
use Rattle.lsp_frame.specs.Bounds.{Bounds}
use Rattle.lsp_frame.specs.Told.{Told}
use Rattle.lsp_frame.specs.declared.format.Format.{Format}
use Rattle.lsp_log.specs.Log.{Record}
use Rattle.lsp_replay.specs.LogEvents.{Reads, unread}
use Rattle.lsp_replay.proofs.Pulling.{ReadsOn}
use Rattle.lsp_replay.proofs.log_events.LogEvents.find.Given as goal
use Rattle.lsp_verdict.specs.Placed.{Raw}

abbrev pub invariant-loop-due : goal.invariant-loop-due
invariant-loop-due g l =
    (limits : Bounds) (format : Option Format) (start : Told) (records : List Record)
    (given due : List Raw) → Reads limits format l.fn.self start (g.R.Source.told l.fn.reader)
    records given due
    → ReadsOn limits format l.self start (g.R.Source.told l.reader) records given

abbrev pub decreases-loop-due : goal.decreases-loop-due
decreases-loop-due g l = unread l.self
