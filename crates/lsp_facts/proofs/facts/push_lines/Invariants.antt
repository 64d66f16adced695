use Rattle.std.proofs.Common.{◌≡◌, ◌++◌, string_bytes, map, take}
use Rattle.lsp_facts.specs.Fact.{fact_lines}
use Rattle.lsp_facts.proofs.facts.push_lines.Given as goal

abbrev pub invariant-loop-line : goal.invariant-loop-line
invariant-loop-line l =
    string_bytes l.text ≡ string_bytes l.fn.text ++ fact_lines (map string_bytes (take l.line-index l.lines))
