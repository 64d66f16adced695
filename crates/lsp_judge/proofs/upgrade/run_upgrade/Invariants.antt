use Rattle.lsp_replay.specs.LogEvents.{unread}
use Rattle.lsp_judge.proofs.UpgradedLogs.{Upgrading}
use Rattle.lsp_judge.proofs.upgrade.run_upgrade.Given as goal

abbrev pub invariant-loop-next : goal.invariant-loop-next
invariant-loop-next g l =
    Upgrading l.fn.limits l.reading.log l.reading.events.session l.reading.events.docs
    l.reading.events.counts l.next (g.R.Source.told l.fn.reader) (g.R.Source.told l.reader)
    (g.W.Sink.told l.fn.writer) (g.W.Sink.told l.writer)

abbrev pub decreases-loop-next : goal.decreases-loop-next
decreases-loop-next g l = unread l.reading.log
