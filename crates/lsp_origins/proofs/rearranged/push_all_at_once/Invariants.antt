use Rattle.std.specs.List.{flat_map}
use Rattle.std.proofs.Common.{◌≡◌, ◌++◌, drop}
use Rattle.lsp_origins.specs.Fits.{suspects_view}
use Rattle.lsp_origins.specs.Rearranged.{at_once}
use Rattle.lsp_origins.proofs.rearranged.push_all_at_once.Given as goal

abbrev pub invariant-loop-suspect : goal.invariant-loop-suspect
invariant-loop-suspect l =
    suspects_view l.others.items
    ++ flat_map at_once (suspects_view (drop l.suspect-index l.part))
    ≡ suspects_view l.fn.others.items ++ flat_map at_once (suspects_view l.part)
