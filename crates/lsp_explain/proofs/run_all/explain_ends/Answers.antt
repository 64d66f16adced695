use Rattle.std.specs.List.{flat_map}
use Rattle.std.specs.Prelude.{take}
use Rattle.std.proofs.Common.{◌≡◌, ◌++◌, map, string_bytes, subst}
use Rattle.std.proofs.lemmas.List.{take_all}
use Rattle.std.proofs.lemmas.Option.{slice_get-get_or}
use Rattle.lsp_survey.specs.Reported.{IsTally}
use Rattle.lsp_survey.proofs.Reporting.{tally_more}
use Rattle.lsp_trail.specs.Common.{numbered, offence_view, terms_in}
use Rattle.lsp_origins.specs.Explained.{cause_lines, end_explained, rests_held}
use Rattle.lsp_explain.proofs.Ending.{ends_more}
use Rattle.lsp_explain.proofs.run_all.explain_ends.Goals as goal

pub loop-offence-preserved : goal.loop-offence-preserved
loop-offence-preserved c =
    let i = c.loop-offence.offence-index in
    let xs = c.args.listed.now in
    let inv = c.loop-offence.invariant in
    let at = slice_get-get_or xs i _ c.loop-offence-test.true in
    record {
      tally = λ found tally. tally_more c.add.new.self xs i _ found at
          (c.add.ensures (found ++ map offence_view (take i xs)) (inv.tally found tally));
      said = λ before stands.
          ends_more (end_explained (rests_held c.args.log.now)
          (numbered (terms_in c.args.past) before)) xs i _ (string_bytes c.args.text.now) _ _ at
          (inv.said before stands) (c.in_ok-push_end.ensures before stands);
    }

pub returns-clause-tally : goal.returns-clause-tally
returns-clause-tally c = λ found tally.
    subst (λ xs. IsTally c.loop-offence.tally (found ++ map offence_view xs))
    (take_all c.loop-offence.offence-index c.args.listed.now c.loop-offence-test.false)
    (c.loop-offence.invariant.tally found tally)

pub returns-clause-said : goal.returns-clause-said
returns-clause-said c = λ before stands.
    subst (λ xs. string_bytes c.loop-offence.text ≡ string_bytes c.args.text.now
    ++ flat_map cause_lines (map (end_explained (rests_held c.args.log.now)
    (numbered (terms_in c.args.past) before)) (map (λ o. (offence_view o).no) xs)))
    (take_all c.loop-offence.offence-index c.args.listed.now c.loop-offence-test.false)
    (c.loop-offence.invariant.said before stands)
