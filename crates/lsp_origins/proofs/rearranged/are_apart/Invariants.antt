use Rattle.std.proofs.Common.{◌≡◌, drop}
use Rattle.lsp_origins.specs.Fits.{suspects_view}
use Rattle.lsp_origins.specs.Rearranged.{are_apart}
use Rattle.lsp_origins.proofs.rearranged.are_apart.Given as goal

abbrev pub invariant-loop-at : goal.invariant-loop-at
invariant-loop-at l =
    are_apart (suspects_view l.parts) ≡ are_apart (suspects_view (drop l.at l.parts))
