use Rattle.std.proofs.Common.{ℕ}
use Rattle.lsp_lined.specs.Ends.{ArePlacesTo}
use Rattle.lsp_lined.proofs.MarkedPlaces.{AreLeft}
use Rattle.lsp_lined.proofs.ends.push_marked.Given as goal

-- the marks that are left are those from some byte on, up to which the places are there
abbrev pub invariant-loop-left : goal.invariant-loop-left
invariant-loop-left l =
    (from : ℕ) × AreLeft l.bytes l.at from l.left × ArePlacesTo l.bytes l.at l.fn.places.items from l.places.items

abbrev pub decreases-loop-left : goal.decreases-loop-left
decreases-loop-left l = l.left
