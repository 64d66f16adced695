use Rattle.std.proofs.Common.{ℕ, ◌-◌, ◌≤◌, length}
use Rattle.lsp_walk.specs.Walk.{SomeItems}
use Rattle.lsp_walk.proofs.walk.tiny_items_end.Given as goal

abbrev pub invariant-items : goal.invariant-items
invariant-items l =
    ((depth begin : ℕ) → SomeItems depth l.bytes begin l.from → SomeItems depth l.bytes begin l.at)
    × (l.from ≤ l.at) × (l.at ≤ length l.bytes)

abbrev pub decreases-items : goal.decreases-items
decreases-items l = length l.bytes - l.at
