use Rattle.std.proofs.Common.{ℕ}
use Rattle.lsp_text.specs.Offsets.{IsAtLine}
use Rattle.lsp_text.proofs.reading.line_at.Given as goal

abbrev pub invariant-loop-i : goal.invariant-loop-i
invariant-loop-i l = (start : ℕ) × IsAtLine l.text l.i start l.rest
