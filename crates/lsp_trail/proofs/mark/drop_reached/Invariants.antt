use Rattle.std.proofs.Common.{length}
use Rattle.lsp_trail.proofs.Waiting.{IsDropping}
use Rattle.lsp_trail.proofs.mark.drop_reached.Given as goal

abbrev pub invariant-loop-waiting : goal.invariant-loop-waiting
invariant-loop-waiting l = IsDropping l.version l.fn.waiting.entries l.waiting.entries

abbrev pub decreases-loop-waiting : goal.decreases-loop-waiting
decreases-loop-waiting l = length l.waiting.entries
