use Rattle.std.specs.Prelude.{map, option_map}
use Rattle.std.proofs.Common.{◌++◌, ◌∙◌, ap, refl}
use Rattle.lsp_survey.proofs.SurveySteps.{clean_by}
use Rattle.lsp_trail.specs.Common.{heard_events, notes_of, offence_view, offences, verdict_view}
use Rattle.lsp_explain.proofs.Ending.{all_closes, few_found, nos_listed}
use Rattle.lsp_origins.proofs.Telling.{stands_at}
use Rattle.lsp_origins.specs.Explained.{rests_held}
use Rattle.lsp_explain.proofs.run_all.AllCauses.close.Goals as goal

pub returns : goal.returns
returns c = record {
  trail = refl;
  closes = λ terms heard stands stood few.
      let completeness = c.args.self.now.completeness in
      let log = c.args.log.now in
      let end = c.args.end in
      let listed = c.as_slice.result.now in
      let ends = map offence_view listed in
      let events = offences terms (notes_of heard) in
      let found = events ++ ends in
      let are = ap (map offence_view) c.as_slice.ensures.value
      ∙ c.in_ok-listed.ensures.listed terms heard stood few in
      let tally = c.in_ok-explain_ends.ensures.tally events stands.tallied in
      all_closes completeness terms heard log end c.in_ok-verdict.verdict found
      (option_map verdict_view c.in_ok-listed.field-0.bad) _ _ _ _ _ (ap (λ os. events ++ os) are)
      c.in_ok-listed.ensures.bad
      (nos_listed _ terms heard (rests_held log) listed _ _ _ stood.by are
      (c.in_ok-explain_ends.ensures.said (heard_events heard) (stands_at _ terms heard stands.trail stood)))
      (c.in_ok-verdict.ensures terms heard found stood few tally (clean_by terms heard ends))
      c.in_ok-push_flaw.ensures
      (c.in_ok-push_count.ensures found tally (few_found completeness terms heard log end ends are few));
}
