use Rattle.std.proofs.Common.{◌≡◌, drop, map}
use Rattle.serde_json.specs.View.{view}
use Rattle.lsp_facts.specs.Members.{row_view, wrong_row}
use Rattle.lsp_facts.proofs.members.wrong_in.Given as goal

abbrev pub invariant-loop-row : goal.invariant-loop-row
invariant-loop-row l =
    wrong_row (map row_view l.rows) (view l.value)
    ≡ wrong_row (map row_view (drop l.row-index l.rows)) (view l.value)
