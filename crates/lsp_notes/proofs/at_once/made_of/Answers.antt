use Rattle.std.specs.Prelude.{string_bytes}
use Rattle.std.specs.Str.{chars}
use Rattle.std.proofs.Common.{◌+◌, ◌∙◌, Some, ap, arith, drop, get_or, subst, sym}
use Rattle.std.proofs.lemmas.List.{drop_all}
use Rattle.lsp_notes.specs.AtOnce.{made_from, splice_view, splices_view}
use Rattle.lsp_notes.proofs.AtOnceSteps.{IsSoFar, begins, ends, goes_on, splices_from, stops}
use Rattle.lsp_notes.proofs.at_once.made_of.Goals as goal

pub loop-splice-init : goal.loop-splice-init
loop-splice-init c = (
  c.utf8.whole,
  begins c.args.whole.now (splices_view c.args.splices.now) (string_bytes c.in_ok-made.made)
      c.in_ok-made.ensures.bytes,
)

-- an edit reaches into the one before it, or ends before it begins
pub returns-then-not-is_next : goal.returns-then-not-is_next
returns-then-not-is_next c =
    let ss = c.args.splices.now in
    let i = c.loop-splice.splice-index in
    let s = get_or ss i _ in
    let all = made_from 0 (chars c.args.whole.now) (splices_view ss) in
    let more = splices_view (drop (i + 1) ss) in
    let done = string_bytes c.loop-splice.made in
    let next = splices_from ss i _ c.loop-splice-test.true in
    stops all done c.loop-splice.here c.loop-splice.rest.now (splice_view s) more
    (subst (IsSoFar all done c.loop-splice.here c.loop-splice.rest.now) next
    c.loop-splice.invariant.1) (sym c.is_next.ensures ∙ c.if-not-is_next.true)

pub loop-splice-preserved : goal.loop-splice-preserved
loop-splice-preserved c =
    let ss = c.args.splices.now in
    let i = c.loop-splice.splice-index in
    let s = get_or ss i _ in
    let all = made_from 0 (chars c.args.whole.now) (splices_view ss) in
    let more = splices_view (drop (i + 1) ss) in
    let done = string_bytes c.loop-splice.made in
    let next = splices_from ss i _ c.loop-splice-test.true in
    let so = subst (IsSoFar all done c.loop-splice.here c.loop-splice.rest.now) next
    c.loop-splice.invariant.1 in
    let put = c.in_ok-rest.ensures so.utf8 in (
      put.left_utf8,
      goes_on all done c.loop-splice.here c.loop-splice.rest.now (splice_view s) more so
          (sym c.is_next.ensures ∙ c.if-not-is_next.false) (string_bytes c.push_next.new.made)
          c.in_ok-rest.rest.now put,
    )

pub returns : goal.returns
returns c =
    let ss = c.args.splices.now in
    let all = made_from 0 (chars c.args.whole.now) (splices_view ss) in
    let done = string_bytes c.loop-splice.made in
    let none = ap splices_view (drop_all c.loop-splice.splice-index ss (omega arith)) in
    ap (λ b. Some (chars b)) c.in_ok-push_str.ensures.bytes
    ∙ ends all done c.loop-splice.here c.loop-splice.rest.now
    (subst (IsSoFar all done c.loop-splice.here c.loop-splice.rest.now) none
    c.loop-splice.invariant.1)
