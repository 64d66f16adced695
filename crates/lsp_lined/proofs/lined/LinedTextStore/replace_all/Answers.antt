use Rattle.std.proofs.Common.{List, ℕ, Result, Ok, sym, ap, ◌∙◌}
use Rattle.std.specs.Str.{chars}
use Rattle.lsp_text.proofs.Splices.{limited-over, limited-within}
use Rattle.lsp_lined.proofs.lined.LinedTextStore.replace_all.Goals as goal

pub returns-then-limit-text-clause-fault : goal.returns-then-limit-text-clause-fault
returns-then-limit-text-clause-fault c = limited-over c.args.limit c.args.text.now c.utf8.text c.if-limit-text.true

pub returns-clause-ok : goal.returns-clause-ok
returns-clause-ok c =
    let done : List ℕ → Result (List ℕ) ℕ = λ x. Ok x in
    limited-within c.args.limit c.args.text.now c.utf8.text c.if-limit-text.false ∙ ap done (ap chars (sym c.in_ok-renew.ensures.ok))
