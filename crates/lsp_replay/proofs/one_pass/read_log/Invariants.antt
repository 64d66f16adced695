use Rattle.std.proofs.Common.{◌≡◌, ◌+◌, ◌-◌}
use Rattle.lsp_frame.specs.Told.{Told}
use Rattle.lsp_replay.specs.LogEvents.{Opens}
use Rattle.lsp_replay.proofs.Passing.{IsPassing}
use Rattle.lsp_replay.proofs.one_pass.read_log.Given as goal

abbrev pub invariant-loop-fault : goal.invariant-loop-fault
invariant-loop-fault g l =
    (g.A.Account.asked l.account ≡ g.A.Account.asked l.fn.account)
    × ((start : Told) → Opens l.fn.limits start (g.R.Source.told l.fn.reader) l.fn.reading.log
    → IsPassing (g.A.Account.run (g.A.Account.asked l.fn.account)) (g.A.Account.stands l.account)
    l.fn.limits l.reading.log l.reading.held.session l.reading.held.docs l.reading.held.counts start
    (g.R.Source.told l.reader) (g.W.Sink.told l.fn.writer) (g.W.Sink.told l.writer))

abbrev pub decreases-loop-fault : goal.decreases-loop-fault
decreases-loop-fault g l = l.fn.limits.log + 1 - l.reading.held.counts.all
