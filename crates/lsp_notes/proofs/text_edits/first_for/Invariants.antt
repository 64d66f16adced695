use Rattle.std.proofs.Common.{◌≡◌, drop}
use Rattle.serde_json.specs.View.{items_view}
use Rattle.lsp_notes.specs.TextEdits.{first_for}
use Rattle.lsp_notes.proofs.text_edits.first_for.Given as goal

abbrev pub invariant-loop-item : goal.invariant-loop-item
invariant-loop-item l =
    first_for l.uri (items_view l.items) ≡ first_for l.uri (items_view (drop l.item-index l.items))
