use Rattle.std.proofs.Common.{◌∙◌, ◌++◌, ap, string_bytes}
use Rattle.lsp_survey.proofs.Reporting.{count_some}
use Rattle.lsp_survey.proofs.offence_count.OffenceCount.push_count.Goals as goal

pub returns : goal.returns
returns c = λ found tally few.
    c.in_ok-push_str.ensures.bytes ∙ ap (λ w. string_bytes c.args.text.now ++ w)
    (c.as_str.ensures.value ∙ c.in_ok-count.ensures
    ∙ count_some c.args.self.now found tally few c.if-self-eq0.false)
