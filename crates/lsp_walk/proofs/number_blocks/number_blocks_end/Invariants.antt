use Rattle.std.proofs.Common.{ℕ, ◌-◌, ◌≤◌, length}
use Rattle.lsp_walk.specs.Walk.{SomeItems, NumberMayBegin}
use Rattle.lsp_walk.proofs.number_blocks.number_blocks_end.Given as goal

abbrev pub invariant-lanes : goal.invariant-lanes
invariant-lanes l =
    ((depth begin : ℕ) → SomeItems depth l.bytes begin l.from → SomeItems depth l.bytes begin l.at)
    × NumberMayBegin l.bytes l.at × (l.from ≤ l.at) × (l.at ≤ length l.bytes)

abbrev pub decreases-lanes : goal.decreases-lanes
decreases-lanes l = length l.bytes - l.at
