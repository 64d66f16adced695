use Rattle.std.proofs.Common.{◌≡◌, ◌+◌, ◌++◌, ℕ, List, drop}
use Rattle.lsp_facts.specs.Whole.{end_from}
use Rattle.lsp_facts.proofs.json_text.walk_over.Given as goal

abbrev pub invariant-loop-number : goal.invariant-loop-number
invariant-loop-number l =
    (n : ℕ) (more : List ℕ) → end_from n l.fn.from l.fn.opened.items (l.bytes ++ more)
    ≡ end_from (n + l.number) l.place l.opened.items (drop l.number l.bytes ++ more)
