use Rattle.std.proofs.Common.{◌∷◌, [], ◌++◌, ◌+◌, ◌∙◌, append_assoc}
use Rattle.std.proofs.lemmas.Result.{on_ok_weaker}
use Rattle.lsp_facts.specs.Fact.{Fact, counts_in, fails}
use Rattle.lsp_facts.proofs.facts.Facts.change.Goals as goal

pub returns : goal.returns
returns c =
    let unit : Fact = counts_in c.args.encoding in
    let failing : Fact = fails (c.args.count + 1) c.args.span in
    on_ok_weaker c.push.result (λ is.
    is ∙ (λ i. c.in_ok-encoding.ensures i ++ c.in_ok-line.ensures i ∷ [])
    ∙ append_assoc c.args.self.now (unit ∷ []) (failing ∷ [])) c.push.ensures.ok
