use Rattle.std.proofs.Common.{◌≡◌, ◌+◌, ◌-◌, ◌≤◌, length, drop, not}
use Rattle.std.specs.List.{prefix_len}
use Rattle.lsp_walk.proofs.runs.run_end.Given as goal

abbrev pub invariant-lanes : goal.invariant-lanes
invariant-lanes g l =
    (l.from + prefix_len (λ x. not (g.R.Run.is_stop x)) (drop l.from l.bytes)
    ≡ l.at + prefix_len (λ x. not (g.R.Run.is_stop x)) (drop l.at l.bytes))
    × (l.at ≤ length l.bytes)

abbrev pub decreases-lanes : goal.decreases-lanes
decreases-lanes g l = length l.bytes - l.at
