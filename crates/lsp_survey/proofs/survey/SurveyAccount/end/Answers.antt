use Rattle.std.specs.Prelude.{map, option_map}
use Rattle.std.proofs.Common.{◌++◌, ◌∙◌, ap}
use Rattle.lsp_survey.proofs.SurveySteps.{clean_by, end_closes, few_listed}
use Rattle.lsp_replay.specs.Common.{notes_of, offence_view, offences, verdict_view}
use Rattle.lsp_survey.proofs.survey.SurveyAccount.end.Goals as goal

pub returns : goal.returns
returns c = record {
  closes = λ terms heard stands stood few.
      let options = c.args.self.now.options in
      let log = c.args.log.now in
      let end = c.args.end in
      let ends = map offence_view c.as_slice.result.now in
      let found = offences terms (notes_of heard) ++ ends in
      let are = ap (map offence_view) c.as_slice.ensures.value
      ∙ c.in_ok-listed.ensures.listed terms heard stood few in
      let tally = c.in_ok-list_all.ensures.tally (offences terms (notes_of heard)) stands.tally in
      end_closes options terms heard log end ends are c.in_ok-verdict.verdict
      (option_map verdict_view c.in_ok-listed.field-0.bad) _ _ _ _ c.in_ok-listed.ensures.bad
      c.in_ok-list_all.ensures.said
      (c.in_ok-verdict.ensures terms heard found stood few tally (clean_by terms heard ends))
      (c.in_ok-push_count.ensures found tally (few_listed options terms heard log end ends are few));
}
