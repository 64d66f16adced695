use Rattle.std.proofs.Common.{ℕ, ◌-◌, List, length}
use Rattle.lsp_walk.specs.Walk.{IsRun}
use Rattle.lsp_walk.proofs.texts.text_end.Given as goal

abbrev pub invariant-runs : goal.invariant-runs
invariant-runs l = (s : List ℕ) × IsRun l.bytes l.from l.at s

abbrev pub decreases-runs : goal.decreases-runs
decreases-runs l = length l.bytes - l.at
