use Rattle.std.proofs.Common.{◌∙◌}
use Rattle.lsp_json.proofs.Patterns.{fit_not, fit_on, none_left}
use Rattle.lsp_json.proofs.field.+fit.Goals as goal

pub returns-then-not-suits : goal.returns-then-not-suits
returns-then-not-suits t c =
    fit_not _ _ _ _ _ _ c.first_field.ensures.fields c.split.ensures.own c.split.ensures.behind
    c.suits.result c.suits.ensures c.if-not-suits.true

pub returns-in_default : goal.returns-in_default
returns-in_default t c =
    let fields = rw c.in_default.is at c.first_field.ensures.fields in
    c.is_empty.ensures ∙ none_left c.split.result.1.now ∙ fit_on _ _ _ _ _ _ fields c.split.ensures.own c.split.ensures.behind c.suits.result
    c.suits.ensures c.if-not-suits.false

pub returns : goal.returns
returns t c =
    let fields = rw c.in-Some.is at c.first_field.ensures.fields in
    c.fit.ensures ∙ fit_on _ _ _ _ _ _ fields c.split.ensures.own c.split.ensures.behind
    c.suits.result c.suits.ensures c.if-not-suits.false
