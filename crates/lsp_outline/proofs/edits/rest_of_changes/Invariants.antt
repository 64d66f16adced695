use Rattle.std.proofs.Common.{◌≡◌, ◌++◌, ◌-◌, length, option_map}
use Rattle.serde_json.specs.Data.{Items}
use Rattle.lsp_walk.specs.Walk.{SomeItems}
use Rattle.lsp_rpc.specs.Params.{all_of, change_at}
use Rattle.lsp_rpc.specs.View.{changes_view}
use Rattle.lsp_outline.proofs.edits.rest_of_changes.Given as goal

abbrev pub invariant-changes : goal.invariant-changes
invariant-changes l =
    (some : SomeItems l.depth l.text l.from l.at)
    × ((rest : Items) → all_of change_at (some.front rest)
    ≡ option_map (λ more. changes_view l.found.items ++ more) (all_of change_at rest))

abbrev pub decreases-changes : goal.decreases-changes
decreases-changes l = length l.text - l.at
