use Rattle.std.proofs.Common.{◌≡◌, drop, map}
use Rattle.lsp_json.specs.Fields.{word_view}
use Rattle.lsp_json.specs.Lines.{row_for, row_view}
use Rattle.lsp_json.proofs.lines.row_for.Given as goal

abbrev pub invariant-loop-row : goal.invariant-loop-row
invariant-loop-row l =
    row_for (map row_view l.rows) (map word_view l.words)
    ≡ row_for (map row_view (drop l.row-index l.rows)) (map word_view l.words)
