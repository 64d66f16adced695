use Rattle.std.proofs.Common.{◌<◌, length, arith}
use Rattle.lsp_replay.specs.Common.{edits_of, held}
use Rattle.lsp_facts.proofs.MadeChanges.{all_seen, seen_length, tried_there}
use Rattle.lsp_facts.proofs.OtherTexts.{all_make, none_held, one_fails}
use Rattle.lsp_facts.proofs.made.whole.Goals as goal

pub returns-in_err-store_of : goal.returns-in_err-store_of
returns-in_err-store_of g c = rw c.from_residual.ensures (λ enc calls h tries.
    none_held c.args.docs.now.terms enc (edits_of c.args.changes.now)
    (held c.args.docs.now.terms c.args.uri.now calls) (c.in_err-store_of.ensures calls h))

pub returns-then-count-changes : goal.returns-then-count-changes
returns-then-count-changes g c = λ enc calls h tries.
    let terms = c.args.docs.now.terms in
    let cs = edits_of c.args.changes.now in
    let n = c.as_tried-count.result.count in
    let content = g.S.TextStore.content in
    let there = held terms c.args.uri.now calls in
    let holds = c.in_ok-store_of.ensures calls h in
    let fewer : n < length cs =
    omega (arith, seen_length c.args.changes.now, c.if-count-changes.true) in
    one_fails terms enc cs there _ n (content c.as_tried-count.result.store.now) holds
    (tried_there terms.limit enc there _ cs _ _ n holds c.as_tried-count.ensures tries) fewer

pub returns-else-count-changes : goal.returns-else-count-changes
returns-else-count-changes g c = λ enc calls h tries.
    let terms = c.args.docs.now.terms in
    let cs = edits_of c.args.changes.now in
    let n = c.as_tried-count.result.count in
    let content = g.S.TextStore.content in
    let there = held terms c.args.uri.now calls in
    let holds = c.in_ok-store_of.ensures calls h in
    all_make terms enc cs there _ n (content c.as_tried-count.result.store.now) holds
    (tried_there terms.limit enc there _ cs _ _ n holds c.as_tried-count.ensures tries)
    (all_seen c.args.changes.now n c.if-count-changes.false)
