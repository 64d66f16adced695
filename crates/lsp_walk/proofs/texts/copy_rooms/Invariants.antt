use Rattle.std.proofs.Common.{ℕ, ◌-◌, ◌≤◌, length}
use Rattle.lsp_walk.specs.Texts.{IsPart}
use Rattle.lsp_walk.proofs.texts.copy_rooms.Given as goal

abbrev pub invariant-rooms : goal.invariant-rooms
invariant-rooms l =
    ((start : ℕ) → IsPart l.bytes start l.from l.fn.copy.items
    → IsPart l.bytes start l.at l.copy.items)
    × (l.from ≤ l.at) × (l.at ≤ length l.bytes)

abbrev pub decreases-rooms : goal.decreases-rooms
decreases-rooms l = length l.bytes - l.at
