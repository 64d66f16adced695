use Rattle.std.proofs.Common.{◌≡◌, ◌++◌, drop}
use Rattle.lsp_trail.specs.Bases.{later}
use Rattle.lsp_origins.specs.Fits.{suspects_view}
use Rattle.lsp_origins.proofs.right_from.later_ones.Given as goal

abbrev pub invariant-loop-suspect : goal.invariant-loop-suspect
invariant-loop-suspect l =
    suspects_view l.after.items
    ++ later l.shown.version (suspects_view (drop l.suspect-index l.suspects))
    ≡ later l.shown.version (suspects_view l.suspects)
