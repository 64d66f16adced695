use Rattle.std.proofs.Common.{◌≡◌, ◌+◌, drop, map}
use Rattle.lsp_json.specs.Fields.{items_before, word_view}
use Rattle.lsp_json.proofs.field.items_before.Given as goal

abbrev pub invariant-loop-index : goal.invariant-loop-index
invariant-loop-index l =
    items_before (map word_view l.words)
    ≡ l.index + items_before (map word_view (drop l.index l.words))
