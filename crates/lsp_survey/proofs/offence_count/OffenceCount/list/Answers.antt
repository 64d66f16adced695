use Rattle.std.proofs.Common.{◌∙◌, ◌++◌, ap, append-nil, string_bytes, sym}
use Rattle.lsp_verdict.specs.Given.{offence_view}
use Rattle.lsp_survey.proofs.Reporting.{is_listed, not_listed}
use Rattle.lsp_survey.proofs.offence_count.OffenceCount.list.Goals as goal

pub returns-then-not-is_listed-clause-said : goal.returns-then-not-is_listed-clause-said
returns-then-not-is_listed-clause-said c =
    sym (append-nil (string_bytes c.args.text.now))
    ∙ ap (λ w. string_bytes c.args.text.now ++ w)
    (not_listed c.args.listing (offence_view c.args.offence.now)
    (sym c.is_listed.ensures ∙ c.if-not-is_listed.true))

pub returns-clause-said : goal.returns-clause-said
returns-clause-said c =
    let lines = is_listed c.args.listing (offence_view c.args.offence.now)
    (sym c.is_listed.ensures ∙ c.if-not-is_listed.false) in
    c.in_ok-push_str.ensures.bytes ∙ ap (λ w. string_bytes c.args.text.now ++ w)
    (c.as_str.ensures.value ∙ c.in_ok-lines.ensures ∙ lines)
