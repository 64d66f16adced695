use Rattle.std.proofs.Common.{◌≡◌, drop, map}
use Rattle.lsp_facts.specs.Sentences.{row_for, row_view}
use Rattle.lsp_facts.proofs.sentences.row_for.Given as goal

abbrev pub invariant-loop-row : goal.invariant-loop-row
invariant-loop-row l =
    row_for (map row_view l.rows) l.facts ≡ row_for (map row_view (drop l.row-index l.rows)) l.facts
