use Rattle.std.proofs.Common.{length}
use Rattle.lsp_docs.proofs.Due.{IsDropped}
use Rattle.lsp_docs.proofs.queue.drop_until.Given as goal

abbrev pub invariant-loop-texts : goal.invariant-loop-texts
invariant-loop-texts l = IsDropped l.version l.fn.texts.entries l.texts.entries l.missed

abbrev pub decreases-loop-texts : goal.decreases-loop-texts
decreases-loop-texts l = length l.texts.entries
