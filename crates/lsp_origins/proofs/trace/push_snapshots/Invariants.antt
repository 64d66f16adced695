use Rattle.std.specs.Prelude.{codes}
use Rattle.std.proofs.Common.{◌≡◌, ◌++◌, map, take}
use Rattle.lsp_facts.specs.Fact.{cited}
use Rattle.lsp_origins.proofs.trace.push_snapshots.Given as goal

abbrev pub invariant-loop-place : goal.invariant-loop-place
invariant-loop-place l =
    l.facts ≡ l.fn.facts ++ map (cited (codes "snapshot")) (take l.place-index l.snapshots)
