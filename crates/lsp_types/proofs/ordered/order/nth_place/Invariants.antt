use Rattle.std.proofs.Common.{◌≡◌, drop}
use Rattle.std.specs.Prelude.{slice_get}
use Rattle.lsp_types.specs.Places.{places_in}
use Rattle.lsp_types.proofs.ordered.order.nth_place.Given as goal

abbrev pub invariant-loop-slot : goal.invariant-loop-slot
invariant-loop-slot l = slice_get (places_in l.slots) l.index
    ≡ slice_get (places_in (drop l.slot-index l.slots)) l.before
