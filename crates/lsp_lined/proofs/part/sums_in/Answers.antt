use Rattle.std.proofs.Common.{◌∙◌, arith, map}
use Rattle.lsp_lined.proofs.PartSteps.{counted_at_most, sums_before_at_most, sums_next}
use Rattle.lsp_lined.proofs.part.sums_in.Goals as goal

pub with-sums-requires-clause-these : goal.with-sums-requires-clause-these
with-sums-requires-clause-these g c = sums_before_at_most (map g.T.Part.text c.args.parts.now) c.loop-part.part-index c.loop-part.sums c.requires.parts c.loop-part.invariant

pub with-sums-requires-clause-those : goal.with-sums-requires-clause-those
with-sums-requires-clause-those g c = counted_at_most c.sums.result (g.T.Part.text c.part-item.result) c.sums.ensures.utf8 c.sums.ensures.sums

pub with-sums-requires-clause-fits : goal.with-sums-requires-clause-fits
with-sums-requires-clause-fits g c =
    let next =
    sums_next g.T.Part.text c.args.parts.now c.loop-part.part-index c.part-item.result c.loop-part.sums c.sums.result c.requires.parts c.loop-part-test.true c.part-item.is c.loop-part.invariant c.sums.ensures.sums in
    omega (arith, next.fits, c.requires.fits)

pub loop-part-preserved : goal.loop-part-preserved
loop-part-preserved g c =
    let next =
    sums_next g.T.Part.text c.args.parts.now c.loop-part.part-index c.part-item.result c.loop-part.sums c.sums.result c.requires.parts c.loop-part-test.true c.part-item.is c.loop-part.invariant c.sums.ensures.sums in
    c.with-sums.ensures ∙ next.sums
