use Rattle.std.proofs.Common.{◌≡◌, ◌++◌, take}
use Rattle.lsp_origins.specs.Traced.{named_facts}
use Rattle.lsp_origins.proofs.suspects.push_named.Given as goal

abbrev pub invariant-loop-setter : goal.invariant-loop-setter
invariant-loop-setter l = l.facts ≡ l.fn.facts ++ named_facts (take l.setter-index l.named)
