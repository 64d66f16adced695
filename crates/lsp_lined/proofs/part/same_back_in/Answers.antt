use Rattle.std.proofs.Common.{ap, sym, subst, arith}
use Rattle.std.specs.Str.{IsCharBoundary}
use Rattle.lsp_lined.specs.declared.sums.Sums.{Sums}
use Rattle.lsp_lined.proofs.Backs.{back_part}
use Rattle.lsp_lined.proofs.part.same_back_in.Goals as goal

pub overflow_sub-start : goal.overflow_sub-start
overflow_sub-start g c =
    let p = back_part g.T.Part.text c.args.parts.now c.index-parts-index.result
    c.index-parts-index.result c.args.other.now
    c.args.from c.loop-start.index c.loop-start.start c.loop-start.same c.sums-size.result
    c.requires.parts c.requires.boundary c.loop-start.invariant c.loop-start-test.true
    (omega (arith, c.if-same-len.true, ap (λ (s : Sums). s.bytes) c.sums_in-len.ensures))
    c.index-parts-index.is c.index-parts-index.is c.sums-size.ensures.sums in
    p.size_in

pub same_back-same-requires : goal.same_back-same-requires
same_back-same-requires g c =
    let p = back_part g.T.Part.text c.args.parts.now c.index-parts-index.result
    c.index-parts-index-in-loop-start.result c.args.other.now
    c.args.from c.loop-start.index c.loop-start.start c.loop-start.same c.sums-size.result
    c.requires.parts c.requires.boundary c.loop-start.invariant c.loop-start-test.true
    (omega (arith, c.if-same-len.true, ap (λ (s : Sums). s.bytes) c.sums_in-len.ensures))
    c.index-parts-index.is c.index-parts-index-in-loop-start.is c.sums-size.ensures.sums in
    subst (IsCharBoundary (g.T.Part.text c.index-parts-index-in-loop-start.result))
    (sym c.saturating_sub.ensures) p.boundary

pub loop-start-preserved : goal.loop-start-preserved
loop-start-preserved g c =
    let p = back_part g.T.Part.text c.args.parts.now c.index-parts-index.result
    c.index-parts-index-in-loop-start.result c.args.other.now
    c.args.from c.loop-start.index c.loop-start.start c.loop-start.same c.sums-size.result
    c.requires.parts c.requires.boundary c.loop-start.invariant c.loop-start-test.true
    (omega (arith, c.if-same-len.true, ap (λ (s : Sums). s.bytes) c.sums_in-len.ensures))
    c.index-parts-index.is c.index-parts-index-in-loop-start.is c.sums-size.ensures.sums in
    p.next c.split_at.result.0.now c.same_back-same.result c.split_at.ensures.front
    c.same_back-same.ensures.same
    (omega (arith, c.same_back-same.ensures.within, c.saturating_sub.ensures))
