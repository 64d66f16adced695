use Rattle.std.proofs.Common.{◌≡◌, ◌+◌, drop}
use Rattle.lsp_json.specs.Words.{word_len}
use Rattle.lsp_json.specs.declared.words.Place.TheVariants.{Outside}
use Rattle.lsp_json.proofs.words.word_len.Given as goal

abbrev pub invariant-loop-index : goal.invariant-loop-index
invariant-loop-index l =
    word_len Outside l.line ≡ l.index + word_len l.place (drop l.index l.line)
