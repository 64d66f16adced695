use Rattle.std.proofs.Common.{◌≡◌, ◌++◌, option_map}
use Rattle.std.specs.Vec.Iter.{into_iter_items}
use Rattle.serde_json.specs.View.{items_view}
use Rattle.lsp_rpc.specs.Params.{all_of, change_at}
use Rattle.lsp_rpc.specs.View.{changes_view}
use Rattle.lsp_rpc.proofs.changes.changes_of.Given as goal

abbrev pub invariant-loop-item : goal.invariant-loop-item
invariant-loop-item l =
    all_of change_at (items_view (into_iter_items l.initial.item-iterator)) ≡ option_map (λ rest. changes_view l.found.items ++ rest) (all_of change_at (items_view (into_iter_items l.item-iterator)))
