use Rattle.std.proofs.Common.{◌-◌, length}
use Rattle.lsp_walk.specs.Walk.{AreFewDigits}
use Rattle.lsp_walk.proofs.numbers.few_digits.Given as goal

abbrev pub invariant-digits : goal.invariant-digits
invariant-digits l = AreFewDigits l.bytes l.from l.end l.n

abbrev pub decreases-digits : goal.decreases-digits
decreases-digits l = length l.bytes - l.end
