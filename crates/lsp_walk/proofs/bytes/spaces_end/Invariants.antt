use Rattle.std.proofs.Common.{◌≡◌, ◌-◌, ◌≤◌, length, drop}
use Rattle.json.specs.Lex.{lex, between}
use Rattle.lsp_walk.proofs.bytes.spaces_end.Given as goal

abbrev pub invariant-spaces : goal.invariant-spaces
invariant-spaces l = record {
  same : lex between (drop l.at l.bytes) ≡ lex between (drop l.from l.bytes);
  forward : l.from ≤ l.at;
  within : l.at ≤ length l.bytes;
}

abbrev pub decreases-spaces : goal.decreases-spaces
decreases-spaces l = length l.bytes - l.at
