use Rattle.std.proofs.Common.{ℕ, List, ap, sym, subst, ◌∙◌}
use Rattle.std.specs.Str.{chars}
use Rattle.lsp_text.specs.Edits.{changed, IsFaultOf}
use Rattle.lsp_text.proofs.Edits.Applied.{fails_after, fails_all, none_made, on_success}
use Rattle.lsp_text.proofs.Edits.Applied.{one_more_made}
use Rattle.lsp_text.proofs.FoundChanges.{found_next, found_all}
use Rattle.lsp_text.proofs.changes.change_all.Goals as goal

pub loop-made-init : goal.loop-made-init
loop-made-init g c = record {
  made = none_made c.args.limit c.args.encoding (g.S.TextStore.content c.args.store.now)
      c.args.changes.now;
  found = c.none-found.ensures;
}

pub loop-made-preserved : goal.loop-made-preserved
loop-made-preserved g c =
    let content = g.S.TextStore.content in
    let next = c.index-changes-made.result in
    record {
      made = one_more_made c.args.limit c.args.encoding (content c.args.store.now)
          (content c.loop-made.store)
          (content c.change_noting.new.store) c.args.changes.now c.loop-made.made next
          c.loop-made-test.true c.index-changes-made.is c.loop-made.invariant.made
          (ap (λ (x : List ℕ). changed c.args.encoding (content c.loop-made.store) next.span
          (chars x) c.args.limit) (sym c.as_str-text.ensures.value)
          ∙ on_success c.change_noting.result _ c.change_noting.ensures.ok c.in_default.not-Err);
      found = found_next c.args.limit c.args.encoding (content c.args.store.now)
          (content c.loop-made.store) c.args.changes.now c.loop-made.made next c.loop-made.found
          c.change_noting.new.found c.loop-made-test.true c.index-changes-made.is
          c.loop-made.invariant.made.made c.loop-made.invariant.found
          (on_success c.change_noting.result _ c.change_noting.ensures.found c.in_default.not-Err);
    }

pub returns-clause-found : goal.returns-clause-found
returns-clause-found g c =
    found_all c.args.limit c.args.encoding (g.S.TextStore.content c.args.store.now)
    c.args.changes.now c.loop-made.made c.loop-made.found c.loop-made-test.false
    c.loop-made.invariant.found

pub returns-in-Err-clause-fault : goal.returns-in-Err-clause-fault
returns-in-Err-clause-fault g c =
    let content = g.S.TextStore.content in
    let next = c.index-changes-made.result in
    let u = content c.loop-made.store in
    fails_all c.args.limit c.args.encoding (content c.args.store.now) u c.args.changes.now
    c.loop-made.made next c.in-Err.fault c.loop-made.invariant.made c.loop-made-test.true
    c.index-changes-made.is
    (subst (λ (x : List ℕ). IsFaultOf (changed c.args.encoding u next.span (chars x) c.args.limit)
    c.in-Err.fault) c.as_str-text.ensures.value c.in-Err.ensures.fault)

pub returns-in-Err-clause-err : goal.returns-in-Err-clause-err
returns-in-Err-clause-err g c =
    let content = g.S.TextStore.content in
    let next = c.index-changes-made.result in
    let u = content c.loop-made.store in
    fails_after c.args.limit c.args.encoding (content c.args.store.now) u
    (content c.change_noting.new.store) c.args.changes.now c.loop-made.made next c.in-Err.fault
    c.loop-made.invariant.made c.loop-made-test.true c.index-changes-made.is c.in-Err.ensures.err
    (subst (λ (x : List ℕ). IsFaultOf (changed c.args.encoding u next.span (chars x) c.args.limit)
    c.in-Err.fault) c.as_str-text.ensures.value c.in-Err.ensures.fault)
