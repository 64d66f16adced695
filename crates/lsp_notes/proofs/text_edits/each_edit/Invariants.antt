use Rattle.std.proofs.Common.{◌≡◌, ◌++◌, option_map, drop}
use Rattle.serde_json.specs.View.{items_view}
use Rattle.lsp_trail.specs.Common.{all_of, edits_of}
use Rattle.lsp_notes.specs.TextEdits.{text_edit_at}
use Rattle.lsp_notes.proofs.text_edits.each_edit.Given as goal

abbrev pub invariant-loop-item : goal.invariant-loop-item
invariant-loop-item l =
    all_of text_edit_at (items_view l.items)
    ≡ option_map (λ rest. edits_of l.edits.items ++ rest)
    (all_of text_edit_at (items_view (drop l.item-index l.items)))
