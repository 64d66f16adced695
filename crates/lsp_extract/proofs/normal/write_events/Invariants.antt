use Rattle.std.proofs.Common.{◌+◌, ◌-◌}
use Rattle.lsp_replay.specs.Common.{Opens, Told}
use Rattle.lsp_extract.proofs.Forming.Logs.{EventsSoFar}
use Rattle.lsp_extract.proofs.normal.write_events.Given as goal

abbrev pub invariant-loop-fault : goal.invariant-loop-fault
invariant-loop-fault g l =
    (start : Told) → Opens l.fn.limits start (g.R.Source.told l.fn.reader) l.fn.events
    → EventsSoFar l.fn.limits l.fn.events.log.format l.events l.counts start
    (g.R.Source.told l.reader) (g.W.Sink.told l.fn.writer) (g.W.Sink.told l.writer)

abbrev pub decreases-loop-fault : goal.decreases-loop-fault
decreases-loop-fault g l = l.fn.limits.log + 1 - l.counts.all
