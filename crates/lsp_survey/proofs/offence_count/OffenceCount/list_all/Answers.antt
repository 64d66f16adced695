use Rattle.std.specs.Prelude.{take}
use Rattle.std.proofs.Common.{◌++◌, map, string_bytes}
use Rattle.std.proofs.lemmas.Option.{slice_get-get_or}
use Rattle.lsp_verdict.specs.Given.{offence_view}
use Rattle.lsp_survey.proofs.Reporting.{lines_more, tally_more}
use Rattle.lsp_survey.proofs.offence_count.OffenceCount.list_all.Goals as goal

pub loop-offence-preserved : goal.loop-offence-preserved
loop-offence-preserved c =
    let i = c.loop-offence.offence-index in
    let xs = c.args.offences.now in
    let at = slice_get-get_or xs i _ c.loop-offence-test.true in
    record {
      tally = λ found tally. tally_more c.list.new.self xs i _ found at
          (c.in_ok-list.ensures.tally (found ++ map offence_view (take i xs))
          (c.loop-offence.invariant.tally found tally));
      said = lines_more c.args.listing xs i _ (string_bytes c.args.text.now) _ _ at
          c.loop-offence.invariant.said c.in_ok-list.ensures.said;
    }
