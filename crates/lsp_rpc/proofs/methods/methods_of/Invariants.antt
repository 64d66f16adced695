use Rattle.std.proofs.Common.{◌≡◌, ◌++◌, option_map}
use Rattle.std.specs.Vec.Iter.{into_iter_items}
use Rattle.serde_json.specs.View.{items_view}
use Rattle.std.specs.Prelude.{codes}
use Rattle.serde_json.specs.Find.{as_str}
use Rattle.lsp_rpc.specs.Params.{all_of, required}
use Rattle.lsp_rpc.specs.View.{texts_view}
use Rattle.lsp_rpc.proofs.methods.methods_of.Given as goal

abbrev pub invariant-loop-item : goal.invariant-loop-item
invariant-loop-item l =
    all_of (required (codes "method") as_str) (items_view (into_iter_items l.initial.item-iterator)) ≡ option_map (λ rest. texts_view l.found.items ++ rest) (all_of (required (codes "method") as_str) (items_view (into_iter_items l.item-iterator)))
