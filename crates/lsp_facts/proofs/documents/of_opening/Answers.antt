use Rattle.std.proofs.Common.{[], ◌∷◌, ◌++◌, ap, sym, ◌∙◌}
use Rattle.std.specs.Prelude.{length}
use Rattle.std.specs.Str.{chars}
use Rattle.lsp_text.proofs.Counting.{units-utf8_text}
use Rattle.lsp_facts.specs.DocumentFacts.{opening_facts}
use Rattle.lsp_facts.specs.Fact.{would_have, may_have}
use Rattle.lsp_facts.proofs.documents.of_opening.Goals as goal

pub returns : goal.returns
returns c =
    let bs = c.args.text.now in
    let limit = c.args.limit in
    c.in_ok-number-2.ensures.ok
    ∙ ap (λ l. l ++ may_have limit ∷ []) (c.in_ok-number.ensures.ok
    ∙ ap (λ l. l ++ would_have (length bs) ∷ []) c.new-facts.ensures)
    ∙ ap (λ n. would_have n ∷ may_have limit ∷ []) (sym (units-utf8_text bs c.utf8.text))
    ∙ ap (opening_facts limit (chars bs)) (sym c.if-rule-ne-DOCUMENT_OVER_LIMIT.false)
