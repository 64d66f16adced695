use Rattle.std.proofs.Common.{length, ◌+◌, ◌-◌}
use Rattle.lsp_text.specs.Offsets.{IsPassed}
use Rattle.lsp_text.proofs.columns.pass_pairs.Given as goal

abbrev pub invariant-loop-at : goal.invariant-loop-at
invariant-loop-at l = IsPassed l.encoding l.bytes l.column l.at l.left

abbrev pub decreases-loop-at : goal.decreases-loop-at
decreases-loop-at l = length l.bytes + 1 - l.at
