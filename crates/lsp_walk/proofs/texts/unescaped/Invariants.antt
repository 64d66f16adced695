use Rattle.std.proofs.Common.{◌-◌, length}
use Rattle.lsp_walk.specs.Texts.{IsPart}
use Rattle.lsp_walk.proofs.texts.unescaped.Given as goal

abbrev pub invariant-runs : goal.invariant-runs
invariant-runs l = IsPart l.text l.from l.at l.copy.items

abbrev pub decreases-runs : goal.decreases-runs
decreases-runs l = length l.text - l.at
