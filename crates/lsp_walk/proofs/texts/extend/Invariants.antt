use Rattle.std.proofs.Common.{◌-◌, ◌<◌, ◌≤◌, length}
use Rattle.lsp_walk.proofs.texts.extend.Given as goal

abbrev pub invariant-doubled : goal.invariant-doubled
invariant-doubled l = (0 < l.size) × (length l.copy.items ≤ l.size)

abbrev pub decreases-doubled : goal.decreases-doubled
decreases-doubled l = l.len - l.size
