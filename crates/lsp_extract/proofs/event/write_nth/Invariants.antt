use Rattle.std.proofs.Common.{◌≡◌, ◌<◌, ℕ}
use Rattle.lsp_replay.specs.Common.{Bounds, Told}
use Rattle.lsp_extract.specs.Event.{HasPassed}
use Rattle.lsp_extract.proofs.event.write_nth.Given as goal

abbrev pub invariant-loop-fault : goal.invariant-loop-fault
invariant-loop-fault g l = record {
  ahead : 0 < l.left;
  sink : g.W.Sink.told l.writer ≡ g.W.Sink.told l.fn.writer;
  passed : (limits : Bounds) (start : Told) (n : ℕ)
      → HasPassed limits l.fn.events start (g.R.Source.told l.fn.reader) n l.fn.number
      → HasPassed limits l.events start (g.R.Source.told l.reader) n l.left;
}

abbrev pub decreases-loop-fault : goal.decreases-loop-fault
decreases-loop-fault g l = l.left
