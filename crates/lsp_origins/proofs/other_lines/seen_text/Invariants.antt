use Rattle.std.proofs.Common.{string_bytes}
use Rattle.std.specs.Str.{chars}
use Rattle.lsp_origins.proofs.OtherLineSteps.{IsSeen}
use Rattle.lsp_origins.proofs.other_lines.seen_text.Given as goal

abbrev pub invariant-loop-char : goal.invariant-loop-char
invariant-loop-char l = IsSeen l.by l.yielded l.last (chars (string_bytes l.seen))
