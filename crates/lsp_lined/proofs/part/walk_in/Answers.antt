use Rattle.std.proofs.Common.{◌+◌, ◌-◌, List, ℕ, map, subst, arith}
use Rattle.lsp_lined.specs.Parts.{joined}
use Rattle.lsp_text.specs.Spans.{bytes_between}
use Rattle.lsp_lined.proofs.Walks.{at_found, between_none, on_err, shown, seen_next, stopped_next}
use Rattle.lsp_lined.proofs.part.walk_in.Goals as goal

pub loop-at-init : goal.loop-at-init
loop-at-init g c =
    let ps = map g.T.Part.text c.args.parts.now in
    let visitor = c.args.visitor.now in
    record {
      place = at_found ps c.args.from c.args.to c.find-found.result c.requires.span
          c.find-found.ensures;
      seen =
          subst (λ (x : List ℕ). g.V.Visitor.sees visitor x visitor)
          (between_none (joined ps) c.args.from) (c.requires.order.none visitor);
    }

pub walk-requires-clause-span : goal.walk-requires-clause-span
walk-requires-clause-span g c =
    let s = shown g.T.Part.text c.args.parts.now c.index-parts-index.result c.args.from c.args.to
    c.loop-at.index c.loop-at.start c.loop-at.at c.min-last.result c.sums-len.result
    c.requires.parts c.requires.span c.loop-at.invariant.place c.loop-at-test.true
    c.index-parts-index.is c.sums-len.ensures.sums c.min-last.ensures in
    s.span

pub returns-in_err-walk-clause-err : goal.returns-in_err-walk-clause-err
returns-in_err-walk-clause-err g c =
    let s = shown g.T.Part.text c.args.parts.now c.index-parts-index.result c.args.from c.args.to
    c.loop-at.index c.loop-at.start c.loop-at.at c.min-last.result c.sums-len.result
    c.requires.parts c.requires.span c.loop-at.invariant.place c.loop-at-test.true
    c.index-parts-index.is c.sums-len.ensures.sums c.min-last.ensures in
    let bs = joined (map g.T.Part.text c.args.parts.now) in
    let end = c.loop-at.start + c.min-last.result in
    let fact =
    stopped_next g.V.Visitor.sees g.V.Visitor.stops c.args.visitor.now c.loop-at.visitor
    c.walk.new.visitor (bytes_between bs c.args.from c.loop-at.at)
    (bytes_between bs c.loop-at.at end) (bytes_between bs end c.args.to)
    (bytes_between (g.T.Part.text c.index-parts-index.result) (c.loop-at.at - c.loop-at.start)
    c.min-last.result) (bytes_between bs c.loop-at.at c.args.to)
    (bytes_between bs c.args.from c.args.to) c.requires.order s.is s.step.rest s.step.rest_apart
    s.step.whole s.step.whole_apart c.loop-at.invariant.seen c.in_err-walk.ensures.err in
    on_err c.from_residual.result fact

pub overflow_add-start : goal.overflow_add-start
overflow_add-start g c =
    let s = shown g.T.Part.text c.args.parts.now c.index-parts-index.result c.args.from c.args.to
    c.loop-at.index c.loop-at.start c.loop-at.at c.min-last.result c.sums-len.result
    c.requires.parts c.requires.span c.loop-at.invariant.place c.loop-at-test.true
    c.index-parts-index.is c.sums-len.ensures.sums c.min-last.ensures in
    record { fits = omega (arith, s.step.fits, c.requires.span.fits) }

pub loop-at-preserved : goal.loop-at-preserved
loop-at-preserved g c =
    let s = shown g.T.Part.text c.args.parts.now c.index-parts-index.result c.args.from c.args.to
    c.loop-at.index c.loop-at.start c.loop-at.at c.min-last.result c.sums-len.result
    c.requires.parts c.requires.span c.loop-at.invariant.place c.loop-at-test.true
    c.index-parts-index.is c.sums-len.ensures.sums c.min-last.ensures in
    let bs = joined (map g.T.Part.text c.args.parts.now) in
    let end = c.loop-at.start + c.min-last.result in
    record {
      place = s.step.next;
      seen =
          seen_next g.V.Visitor.sees g.V.Visitor.stops c.args.visitor.now c.loop-at.visitor
          c.walk.new.visitor (bytes_between bs c.args.from c.loop-at.at)
          (bytes_between bs c.loop-at.at end) (bytes_between bs c.args.from end)
          (bytes_between (g.T.Part.text c.index-parts-index.result)
          (c.loop-at.at - c.loop-at.start) c.min-last.result) c.requires.order s.step.more s.is
          s.step.apart c.loop-at.invariant.seen c.in_ok-walk.ensures.ok;
    }
