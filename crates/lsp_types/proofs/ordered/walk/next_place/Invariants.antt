use Rattle.std.proofs.Common.{length, ◌-◌, ◌≡◌, drop}
use Rattle.lsp_types.specs.Places.{places_in}
use Rattle.lsp_types.proofs.ordered.walk.next_place.Given as goal

abbrev pub decreases-loop-slot : goal.decreases-loop-slot
decreases-loop-slot l = length l.slots - l.slot

abbrev pub invariant-loop-slot : goal.invariant-loop-slot
invariant-loop-slot l = places_in (drop l.fn.from l.slots) ≡ places_in (drop l.slot l.slots)
