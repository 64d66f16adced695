use Rattle.std.proofs.Common.{◌≡◌, Bool, List, ℕ, false, true, sym, ap, ◌∙◌}
use Rattle.std.specs.Str.{bytes_eq, chars}
use Rattle.lsp_text.proofs.Positions.{rest_shorter}
use Rattle.lsp_facts.specs.EndsApart.{are_converted, ends_in}
use Rattle.lsp_facts.proofs.EndLists.{ends_first, ends_none, fewer_there, left_over}
use Rattle.lsp_facts.proofs.EndLists.{one_converted, other_from, other_to}
use Rattle.lsp_facts.proofs.ends.are_converted.Goals as goal

-- the other text has no more
pub returns-in_default-of : goal.returns-in_default-of
returns-in_default-of c =
    let from = chars c.args.from.now in
    let to = chars c.args.to.now in
    let line = c.in-Some.line in
    sym (c.loop-line.invariant.same
    ∙ (λ i. are_converted from to (ends_first c.loop-line.rest.now line c.in-Some.ensures i)
    (ends_none c.loop-line.ahead.now c.in_default-of.ensures i))
    ∙ fewer_there from to (chars line.end.now) (ends_in (chars line.rest.now)))

-- one line end is of another kind
pub returns-then-not-is_same : goal.returns-then-not-is_same
returns-then-not-is_same c =
    let from = chars c.args.from.now in
    let to = chars c.args.to.now in
    let line = c.in-Some.line in
    let second = c.in-Some-of.second in
    sym (c.loop-line.invariant.same
    ∙ (λ i. are_converted from to (ends_first c.loop-line.rest.now line c.in-Some.ensures i)
    (ends_first c.loop-line.ahead.now second c.in-Some-of.ensures i))
    ∙ other_from from to (chars line.end.now) (chars second.end.now)
    (ends_in (chars line.rest.now)) (ends_in (chars second.rest.now))
    (sym c.is_same.ensures ∙ c.if-not-is_same.true))

pub returns-then-not-is_same-2 : goal.returns-then-not-is_same-2
returns-then-not-is_same-2 c =
    let from = chars c.args.from.now in
    let to = chars c.args.to.now in
    let line = c.in-Some.line in
    let second = c.in-Some-of.second in
    sym (c.loop-line.invariant.same
    ∙ (λ i. are_converted from to (ends_first c.loop-line.rest.now line c.in-Some.ensures i)
    (ends_first c.loop-line.ahead.now second c.in-Some-of.ensures i))
    ∙ other_to from to (chars line.end.now) (chars second.end.now)
    (ends_in (chars line.rest.now)) (ends_in (chars second.rest.now))
    (sym c.is_same-in-Some.ensures ∙ c.if-not-is_same-2.true))

pub loop-line-preserved : goal.loop-line-preserved
loop-line-preserved c =
    let from = chars c.args.from.now in
    let to = chars c.args.to.now in
    let line = c.in-Some.line in
    let second = c.in-Some-of.second in
    record {
      rest_utf8 = c.in-Some.ensures.rest_utf8;
      ahead_utf8 = c.in-Some-of.ensures.rest_utf8;
      same = c.loop-line.invariant.same
          ∙ (λ i. are_converted from to (ends_first c.loop-line.rest.now line c.in-Some.ensures i)
          (ends_first c.loop-line.ahead.now second c.in-Some-of.ensures i))
          ∙ one_converted from to (chars line.end.now) (chars second.end.now)
          (ends_in (chars line.rest.now)) (ends_in (chars second.rest.now))
          (sym c.is_same.ensures ∙ c.if-not-is_same.false)
          (sym c.is_same-in-Some.ensures ∙ c.if-not-is_same-2.false);
    }

pub loop-line-smaller : goal.loop-line-smaller
loop-line-smaller c = rest_shorter c.loop-line.rest.now c.in-Some.line c.in-Some.ensures

-- the first text has no more
pub returns : goal.returns
returns c =
    let from = chars c.args.from.now in
    let to = chars c.args.to.now in
    sym (c.loop-line.invariant.same
    ∙ ap (λ (es : List (List ℕ)). are_converted from to es (ends_in (chars c.loop-line.ahead.now)))
    (ends_none c.loop-line.rest.now c.in_default.ensures)
    ∙ sym (left_over from to c.loop-line.ahead.now c.of-2.result c.is_none.result
    c.is_none.ensures c.of-2.ensures))
