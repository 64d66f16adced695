use Rattle.std.proofs.Common.{◌≡◌, ◌+◌, ◌-◌, ◌≤◌, length, drop, not}
use Rattle.std.specs.List.{prefix_len}
use Rattle.lsp_walk.proofs.runs.last_run_end.Given as goal

abbrev pub invariant-bytes : goal.invariant-bytes
invariant-bytes g l =
    (l.from + prefix_len (λ x. not (g.R.Run.is_stop x)) (drop l.from l.bytes)
    ≡ l.at + prefix_len (λ x. not (g.R.Run.is_stop x)) (drop l.at l.bytes))
    × (l.at ≤ length l.bytes)

abbrev pub decreases-bytes : goal.decreases-bytes
decreases-bytes g l = length l.bytes - l.at
