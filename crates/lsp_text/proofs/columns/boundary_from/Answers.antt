use Rattle.std.proofs.Common.{arith, List, ℕ, subst, sym}
use Rattle.lsp_text.specs.Offsets.{IsPassed}
use Rattle.lsp_text.proofs.Blocks.{byte_passed, passed_at_start, passed_at_end}
use Rattle.lsp_text.proofs.columns.boundary_from.Goals as goal

pub loop-at-init : goal.loop-at-init
loop-at-init c = λ enc column left wide h. h

pub loop-at-preserved : goal.loop-at-preserved
loop-at-preserved c = λ enc column left wide h.
    let inside = c.is_continuation.ensures.0 c.if-is_continuation.true in
    byte_passed enc c.as_bytes-bytes.result.now column c.loop-at.at left wide
    (c.loop-at.invariant enc column left wide h) c.loop-at-test.true inside.0 inside.1

pub returns-else-is_continuation : goal.returns-else-is_continuation
returns-else-is_continuation c = λ enc column left wide h.
    passed_at_start enc c.args.line.now c.as_bytes-bytes.result.now column c.loop-at.at left
    c.is_continuation.result c.utf8.line c.as_bytes-bytes.ensures.value
    (c.loop-at.invariant enc column left wide
    (subst (λ (x : List ℕ). IsPassed enc x column c.args.place left)
    (sym c.as_bytes-bytes.ensures.value) h))
    c.loop-at-test.true c.is_continuation.ensures.1 c.if-is_continuation.false

pub returns-after-loop-at : goal.returns-after-loop-at
returns-after-loop-at c = λ enc column left wide h.
    passed_at_end enc c.args.line.now c.as_bytes-bytes.result.now column c.loop-at.at left
    c.utf8.line c.as_bytes-bytes.ensures.value
    (c.loop-at.invariant enc column left wide
    (subst (λ (x : List ℕ). IsPassed enc x column c.args.place left)
    (sym c.as_bytes-bytes.ensures.value) h))
    (omega (arith, c.loop-at-test.false))
