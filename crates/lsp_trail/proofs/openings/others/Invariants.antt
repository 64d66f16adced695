use Rattle.std.proofs.Common.{◌≡◌, take}
use Rattle.lsp_trail.specs.Openings.{names_view, others}
use Rattle.lsp_trail.proofs.openings.others.Given as goal

abbrev pub invariant-loop-name : goal.invariant-loop-name
invariant-loop-name l =
    names_view l.found.items
    ≡ others (names_view (take l.name-index l.names)) (names_view l.known)
