use Rattle.std.proofs.Common.{◌≡◌, ◌++◌, List, take}
use Rattle.std.specs.List.{flat_map}
use Rattle.lsp_trail.specs.Common.{Event, ons_view, StandsAfter, terms_in}
use Rattle.lsp_origins.specs.Traced.{similar_fact}
use Rattle.lsp_origins.proofs.unopened.push_spelled.Given as goal

abbrev pub invariant-loop-on : goal.invariant-loop-on
invariant-loop-on l =
    (before : List Event) → StandsAfter l.past before
    → l.facts ≡ l.fn.facts ++ flat_map (similar_fact (terms_in l.past) before l.size l.spelling)
    (ons_view (take l.on-index l.opened))
