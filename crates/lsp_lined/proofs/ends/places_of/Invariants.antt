use Rattle.std.proofs.Common.{◌-◌, ◌≤◌, [], length}
use Rattle.lsp_lined.specs.Ends.{ArePlacesTo}
use Rattle.lsp_lined.proofs.ends.places_of.Given as goal

abbrev pub invariant-loop-at : goal.invariant-loop-at
invariant-loop-at l =
    record {
      within : l.at ≤ length l.bytes;
      are : ArePlacesTo l.bytes 0 [] l.at l.places.items;
    }

abbrev pub decreases-loop-at : goal.decreases-loop-at
decreases-loop-at l = length l.bytes - l.at

abbrev pub invariant-loop-i : goal.invariant-loop-i
invariant-loop-i l = ArePlacesTo l.bytes 0 [] l.i l.places.items
