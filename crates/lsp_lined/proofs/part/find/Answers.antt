use Rattle.std.proofs.Common.{arith}
use Rattle.lsp_lined.proofs.PartSteps.{found_next}
use Rattle.lsp_lined.proofs.part.find.Goals as goal

pub overflow_add-bytes : goal.overflow_add-bytes
overflow_add-bytes g c =
    let h = c.loop-index.invariant in
    let next =
    found_next g.T.Part.text c.args.parts.now c.args.by c.loop-index.index c.loop-index.bytes c.loop-index.left c.args.at c.by.result c.by-left.result c.index-parts-index.result c.sums-sums.result
    c.loop-index-test.true c.index-parts-index.is c.sums-sums.ensures.sums c.by.ensures c.by-left.ensures c.if-left-by.false h.bytes_are h.left_is in
    record { fits = omega (arith, next.fits, c.requires.fits) }

pub loop-index-preserved : goal.loop-index-preserved
loop-index-preserved g c =
    let h = c.loop-index.invariant in
    let next =
    found_next g.T.Part.text c.args.parts.now c.args.by c.loop-index.index c.loop-index.bytes c.loop-index.left c.args.at c.by.result c.by-left.result c.index-parts-index.result c.sums-sums.result
    c.loop-index-test.true c.index-parts-index.is c.sums-sums.ensures.sums c.by.ensures c.by-left.ensures c.if-left-by.false h.bytes_are h.left_is in
    record { index = c.loop-index-test.true; bytes_are = next.bytes_are; left_is = next.left_is }
