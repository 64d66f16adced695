use Rattle.std.proofs.Common.{◌≡◌, drop, map, string_bytes}
use Rattle.lsp_facts.specs.Sentences.{has_line}
use Rattle.lsp_facts.proofs.facts.is_in.Given as goal

abbrev pub invariant-loop-line : goal.invariant-loop-line
invariant-loop-line l =
    has_line (map string_bytes l.lines) l.front
    ≡ has_line (map string_bytes (drop l.line-index l.lines)) l.front
