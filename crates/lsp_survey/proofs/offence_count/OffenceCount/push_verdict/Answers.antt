use Rattle.std.specs.Prelude.{option_map}
use Rattle.std.proofs.Common.{◌∙◌, ◌++◌, ap, string_bytes, sym}
use Rattle.lsp_verdict.specs.Given.{verdict_view}
use Rattle.lsp_survey.proofs.Reporting.{some_said}
use Rattle.lsp_survey.proofs.SessionEnds.{none_said}
use Rattle.lsp_survey.proofs.offence_count.OffenceCount.push_verdict.Goals as goal

pub returns-in_ok-push_bad-in-Some : goal.returns-in_ok-push_bad-in-Some
returns-in_ok-push_bad-in-Some c = λ terms heard found stood few tally clean.
    let both = some_said c.args.self.now found c.in-Some.first (option_map verdict_view c.args.bad) _
    _ c.in-Some.is tally c.verdict.ensures in (
      c.in_ok-push_bad-in-Some.ensures ∙ ap (λ w. string_bytes c.args.text.now ++ w) both.0,
      both.1,
    )

pub returns-in_ok-push_report-in-None : goal.returns-in_ok-push_report-in-None
returns-in_ok-push_report-in-None c = λ terms heard found stood few tally clean.
    none_said terms heard _ _ _ stood few c.args.self.now found (option_map verdict_view c.args.bad)
    _ _ _ (sym c.in-None.is) tally clean c.in_ok-verdict-in-None.ensures
    c.in_ok-push_report-in-None.ensures
