use Rattle.std.specs.Prelude.{length, map, option_map, suc}
use Rattle.std.proofs.Common.{◌≡◌, ◌++◌, ℕ, List, Option, Some, None}
use Rattle.lsp_json.specs.Fields.{word_view}
use Rattle.lsp_json.specs.Words.{words_in, words_left}
use Rattle.lsp_json.proofs.words.words_in.Given as goal

abbrev pub invariant-loop-left : goal.invariant-loop-left
invariant-loop-left l =
    map word_view l.words.items ++ words_left (option_map word_view l.left)
    ≡ words_in l.fn.line

abbrev left_len : Option (List ℕ) → ℕ
left_len None = 0
left_len (Some left) = suc (length left)

abbrev pub decreases-loop-left : goal.decreases-loop-left
decreases-loop-left l = left_len (option_map word_view l.left)
