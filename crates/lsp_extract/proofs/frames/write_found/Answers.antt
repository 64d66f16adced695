use Rattle.std.proofs.Common.{arith, ◌∙◌}
use Rattle.std.proofs.lemmas.Result.{err_from_is_err_and}
use Rattle.lsp_extract.proofs.Framing.Found.{at_end, at_fault, one_more, one_broken, one_refused}
use Rattle.lsp_replay.proofs.FrameSteps.{frame_step}
use Rattle.lsp_extract.proofs.frames.write_found.Goals as goal

pub returns-in-Err-clause-answer : goal.returns-in-Err-clause-answer
returns-in-Err-clause-answer g c =
    λ bytes contents parts stands count are.
    let next = rw c.in-Err.is at c.next.follows.holds-at-none in
    at_fault _ _ _ _ _ _ _ bytes parts
    (c.loop-fault.invariant.told bytes contents parts stands count are) next

pub returns-in-Ok-None-clause-answer : goal.returns-in-Ok-None-clause-answer
returns-in-Ok-None-clause-answer g c =
    λ bytes contents parts stands count are.
    let next = rw (c.in-Ok-None.is, c.in-Ok-None.field-0-is) at c.next.follows.holds-at-none in
    at_end _ _ _ _ _ _ bytes parts
    (c.loop-fault.invariant.told bytes contents parts stands count are) next

pub returns-in_err-rule-in-Ok-Some-clause-answer : goal.returns-in_err-rule-in-Ok-Some-clause-answer
returns-in_err-rule-in-Ok-Some-clause-answer g c =
    λ bytes contents parts stands count are.
    let next = rw (c.in-Ok-Some.is, c.in-Ok-Some.field-0-is) at c.next.follows.holds-at-none in
    let p = err_from_is_err_and c.from_residual.result c.from_residual.ensures.1 in
    rw (p.1, p.2) (one_broken _ _ _ _ _ _ c.loop-fault.given bytes parts _ _
    (c.loop-fault.invariant.told bytes contents parts stands count are) next
    (frame_step _ _ _ next).limits c.in_err-rule-in-Ok-Some.ensures)

pub returns-in-Some-clause-answer : goal.returns-in-Some-clause-answer
returns-in-Some-clause-answer g c =
    λ bytes contents parts stands count are.
    let next = rw (c.in-Ok-Some.is, c.in-Ok-Some.field-0-is) at c.next.follows.holds-at-none in
    let writes = rw c.in-Some.is at c.in_ok-rule-in-Ok-Some.ensures in
    one_refused _ _ _ _ _ _ c.loop-fault.given bytes parts _ _
    (c.loop-fault.invariant.told bytes contents parts stands count are) next writes.0 writes.1

pub loop-fault-preserved : goal.loop-fault-preserved
loop-fault-preserved g c =
    let next = rw (c.in-Ok-Some.is, c.in-Ok-Some.field-0-is) at c.next.follows.holds-at-none in
    let step = frame_step _ _ _ next in
    let part = rw c.in_default.is at c.in_ok-rule-in-Ok-Some.ensures in
    record {
      room = omega (arith, step.shorter, c.loop-fault.invariant.room);
      limits = step.limits ∙ c.loop-fault.invariant.limits;
      told = λ bytes contents parts stands count are.
          one_more _ _ _ _ _ _ c.loop-fault.given bytes parts _ _
          (c.loop-fault.invariant.told bytes contents parts stands count are) next part.1
          part.2;
    }
