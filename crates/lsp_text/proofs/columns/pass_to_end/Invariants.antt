use Rattle.lsp_text.specs.Offsets.{IsPassed}
use Rattle.lsp_text.proofs.columns.pass_to_end.Given as goal

abbrev pub invariant-loop-behind : goal.invariant-loop-behind
invariant-loop-behind l = IsPassed l.encoding l.bytes l.width l.at l.behind

abbrev pub decreases-loop-behind : goal.decreases-loop-behind
decreases-loop-behind l = l.at
