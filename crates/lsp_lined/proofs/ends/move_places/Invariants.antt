use Rattle.std.proofs.Common.{◌≡◌}
use Rattle.lsp_lined.specs.Ends.{moved_place}
use Rattle.lsp_lined.proofs.MovedPlaces.{moved_to}
use Rattle.lsp_lined.proofs.ends.move_places.Given as goal

abbrev pub invariant-loop-place : goal.invariant-loop-place
invariant-loop-place l = l.places ≡ moved_to (moved_place l.from l.removed l.inserted) l.fn.places l.place-index
