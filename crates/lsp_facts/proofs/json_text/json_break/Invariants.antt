use Rattle.std.proofs.Common.{◌≡◌, drop}
use Rattle.lsp_facts.specs.Grammar.{break_from, json_break}
use Rattle.lsp_facts.proofs.json_text.json_break.Given as goal

abbrev pub invariant-loop-number : goal.invariant-loop-number
invariant-loop-number l =
    json_break l.text ≡ break_from l.number l.place l.opened.items (drop l.number l.text)
