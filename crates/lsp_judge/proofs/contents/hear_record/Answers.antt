use Rattle.std.proofs.Common.{[], ◌∷◌, ◌++◌}
use Rattle.std.proofs.lemmas.Result.{err_from_is_err_and}
use Rattle.lsp_verdict.specs.Given.{raw_view}
use Rattle.lsp_judge.proofs.Records.{stopped}
use Rattle.lsp_judge.proofs.contents.hear_record.Goals as goal

pub loop-raw-init : goal.loop-raw-init
loop-raw-init g c = λ limits format records o.
    let h = o.1 in
    let all = c.in_ok-push.ensures.ok limits records h.past h.stands in
    (o.0, all.0, record { past = h.past; stands = all.1; has = h.has })

pub returns-in_err-take-clause-no : goal.returns-in_err-take-clause-no
returns-in_err-take-clause-no g c =
    let next = rw c.in-Some.is at c.next.follows.holds-at-none in
    let from = c.from_residual-in_err-take in
    let p = err_from_is_err_and from.result from.ensures.1 in
    rw p.1 (λ limits format records o. rw p.2 (
    let (heard, due, h) = c.loop-raw.invariant limits format records o in
    let gives = next.gives limits _ h.past due h.stands in
    stopped limits format _ _ _ _ _ heard due gives.0 (raw_view c.in-Some.raw) _ h gives.1
    (c.in_err-take.ensures.no heard h.has.follows)))

pub loop-raw-smaller : goal.loop-raw-smaller
loop-raw-smaller g c = let next = rw c.in-Some.is at c.next.follows.holds-at-none in next.less

pub loop-raw-preserved : goal.loop-raw-preserved
loop-raw-preserved g c = λ limits format records o.
    let next = rw c.in-Some.is at c.next.follows.holds-at-none in
    let (heard, due, h) = c.loop-raw.invariant limits format records o in
    let gives = next.gives limits _ h.past due h.stands in
    let one = c.in_ok-take.ensures.ok _ h.past heard h.has in (
      heard ++ one.0 ∷ [],
      gives.0,
      record {
        past = h.past ++ raw_view c.in-Some.raw ∷ [];
        stands = gives.2;
        has = one.1;
      },
    )

pub returns-clause-ok : goal.returns-clause-ok
returns-clause-ok g c = λ limits format records o.
    let next = rw c.in_default.is at c.next.follows.holds-at-none in
    let (heard, due, h) = c.loop-raw.invariant limits format records o in
    let gives = next.gives limits _ h.past due h.stands in
    (heard, record { past = h.past; stands = gives.1; has = h.has })
