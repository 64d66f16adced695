use Rattle.std.proofs.Common.{◌≡◌, ◌+◌, length, take}
use Rattle.std.specs.Str.{chars}
use Rattle.lsp_text.specs.Places.{units}
use Rattle.lsp_text.proofs.reading.char_in_line.Given as goal

abbrev pub invariant-loop-c : goal.invariant-loop-c
invariant-loop-c l = units l.encoding (take (length l.yielded) (chars l.line)) + l.left ≡ l.column
