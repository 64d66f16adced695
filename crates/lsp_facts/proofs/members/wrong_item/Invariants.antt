use Rattle.std.proofs.Common.{◌≡◌, drop, map}
use Rattle.serde_json.specs.View.{items_view}
use Rattle.lsp_facts.specs.Members.{row_view, wrong_item}
use Rattle.lsp_facts.proofs.members.wrong_item.Given as goal

abbrev pub invariant-loop-number : goal.invariant-loop-number
invariant-loop-number l =
    wrong_item l.kind (map row_view l.rows) 0 (items_view l.items)
    ≡ wrong_item l.kind (map row_view l.rows) l.number-counter
    (items_view (drop l.number-counter l.items))
