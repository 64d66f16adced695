use Rattle.std.proofs.Common.{Ok, Err, arith, ◌≡◌, ◌≤◌, ◌+◌, ◌∙◌, length}
use Rattle.std.proofs.lemmas.Result.{err_from_is_err_and}
use Rattle.lsp_extract.proofs.Framing.Runs.{nothing_yet, told_all, write_broke, pull_broke}
use Rattle.lsp_extract.proofs.Framing.Runs.{fault_ran, end_pulled, too_long_ran, pull_taken}
use Rattle.lsp_extract.proofs.Framing.Long.{long_answered}
use Rattle.lsp_extract.proofs.frames.write_parts.Goals as goal

pub loop-decoder-init : goal.loop-decoder-init
loop-decoder-init g c = nothing_yet _ _ _ _ _ c.new-decoder.ensures.value

pub returns-in_err-rule : goal.returns-in_err-rule
returns-in_err-rule g c =
    let so_far = c.loop-decoder.invariant in
    let p = err_from_is_err_and c.from_residual.result c.from_residual.ensures.1 in
    let found = c.in_err-rule.ensures.answer so_far.bytes so_far.contents so_far.parts so_far.stands
    so_far.count so_far.are_parts in
    rw (p.1, p.2) (write_broke _ _ _ _ _ _ _ _ _ _ c.write_found.new.given _ _ so_far found
    c.write_found.ensures.limits)

pub returns-in-Some : goal.returns-in-Some
returns-in-Some g c =
    let so_far = c.loop-decoder.invariant in
    let found = rw c.in-Some.is at (c.in_ok-rule.ensures.answer so_far.bytes so_far.contents
    so_far.parts so_far.stands so_far.count so_far.are_parts) in
    fault_ran _ _ _ _ _ _ _ _ _ _ _ _ _ so_far found c.write_found.ensures.limits

pub returns-in_err-count : goal.returns-in_err-count
returns-in_err-count g c =
    let so_far = c.loop-decoder.invariant in
    let told = told_all _ _ _ _ _ _ _ _ _ _ _ _ so_far (rw c.in_default.is at
    c.in_ok-rule.ensures.answer) c.write_found.ensures.limits c.write_found.ensures.room in
    let p = err_from_is_err_and c.from_residual-in_err-count.result
    c.from_residual-in_err-count.ensures.1 in
    rw (p.1, p.2) (pull_broke _ _ _ _ _ _ _ _ _ _ _ _ _ told c.in_err-count.ensures.read_fault
    c.in_err-count.ensures.memory)

pub returns-then-count-eq0 : goal.returns-then-count-eq0
returns-then-count-eq0 g c =
    let so_far = c.loop-decoder.invariant in
    let told = told_all _ _ _ _ _ _ _ _ _ _ _ _ so_far (rw c.in_default.is at
    c.in_ok-rule.ensures.answer) c.write_found.ensures.limits c.write_found.ensures.room in
    end_pulled _ _ _ _ _ _ _ _ _ _ _ _ _ _ told c.in_ok-count.ensures.ok c.if-count-eq0.true
    (c.in_ok-count.ensures.end c.if-count-eq0.true (omega (arith, c.max-most.ensures))
    told.ends.0) c.outcome_at_end-then-count-eq0.ensures

pub returns-then-read-log : goal.returns-then-read-log
returns-then-read-log g c =
    let so_far = c.loop-decoder.invariant in
    let told = told_all _ _ _ _ _ _ _ _ _ _ _ _ so_far (rw c.in_default.is at
    c.in_ok-rule.ensures.answer) c.write_found.ensures.limits c.write_found.ensures.room in
    let pulls = c.in_ok-count.ensures.ok in
    let full = c.if-read-log.true ∙ c.log-log.ensures.value in
    let asked = pulls.within in
    let len = pulls.count in
    let one : length pulls.piece ≡ 1 = grind (arith) in
    too_long_ran _ _ _ _ _ _ _ _ _ _ _ told full one pulls.gave pulls.failures

pub loop-decoder-preserved : goal.loop-decoder-preserved
loop-decoder-preserved g c =
    let so_far = c.loop-decoder.invariant in
    let told = told_all _ _ _ _ _ _ _ _ _ _ _ _ so_far (rw c.in_default.is at
    c.in_ok-rule.ensures.answer) c.write_found.ensures.limits c.write_found.ensures.room in
    let asked = c.in_ok-count.ensures.ok.within in
    let before = so_far.within in
    let within : c.loop-decoder.read + c.in_ok-count.count ≤ c.args.limits.log = grind (arith) in
    pull_taken _ _ _ _ _ _ _ _ _ _ _ _ _ told c.in_ok-count.ensures.ok within

pub returns-in_err-write_long : goal.returns-in_err-write_long
returns-in_err-write_long g c =
    let so_far = c.loop-decoder.invariant in
    let told = told_all _ _ _ _ _ _ _ _ _ _ _ _ so_far (rw c.in_default.is at
    c.in_ok-rule.ensures.answer) c.write_found.ensures.limits c.write_found.ensures.room in
    let long = rw c.in-Some-long_content.is at c.long_content.ensures in
    let p = err_from_is_err_and c.from_residual-in_err-write_long.result
    c.from_residual-in_err-write_long.ensures.1 in
    rw (p.1, p.2) (long_answered _ _ _ _ (g.R.Source.told c.write_long.new.reader) _ _
    (g.W.Sink.told c.write_long.new.writer) _ c.write_long.new.decoder _ c.write_long.new.given
    _ _ _ (Err c.in_err-write_long.field-0.0) told c.log-log.ensures.value long
    c.in_err-write_long.ensures.answer)

pub outcome_at_end-requires : goal.outcome_at_end-requires
outcome_at_end-requires g c =
    let room = c.loop-decoder.invariant.room in
    let within = c.loop-decoder.invariant.within in
    omega (
      arith,
      c.in_ok-write_long.ensures.count,
      c.write_found.ensures.room,
      room,
      within,
      c.log-log.ensures.value,
      c.log-log.ensures.range,
    )

pub returns-then-not-branch : goal.returns-then-not-branch
returns-then-not-branch g c =
    let so_far = c.loop-decoder.invariant in
    let told = told_all _ _ _ _ _ _ _ _ _ _ _ _ so_far (rw c.in_default.is at
    c.in_ok-rule.ensures.answer) c.write_found.ensures.limits c.write_found.ensures.room in
    let long = rw c.in-Some-long_content.is at c.long_content.ensures in
    (rw c.if-not-branch.true at
    (long_answered _ _ _ _ (g.R.Source.told c.write_long.new.reader) _ _
    (g.W.Sink.told c.write_long.new.writer) _ c.write_long.new.decoder _ c.write_long.new.given
    _ _ _ (Ok c.in_ok-write_long.field-0) told c.log-log.ensures.value long
    c.in_ok-write_long.ensures.answer)) _ c.outcome_at_end.ensures

pub loop-decoder-preserved-in-Some-long_content : goal.loop-decoder-preserved-in-Some-long_content
loop-decoder-preserved-in-Some-long_content g c =
    let so_far = c.loop-decoder.invariant in
    let told = told_all _ _ _ _ _ _ _ _ _ _ _ _ so_far (rw c.in_default.is at
    c.in_ok-rule.ensures.answer) c.write_found.ensures.limits c.write_found.ensures.room in
    let long = rw c.in-Some-long_content.is at c.long_content.ensures in
    rw c.if-not-branch.false at
    (long_answered _ _ _ _ (g.R.Source.told c.write_long.new.reader) _ _
    (g.W.Sink.told c.write_long.new.writer) _ c.write_long.new.decoder _ c.write_long.new.given
    _ _ _ (Ok c.in_ok-write_long.field-0) told c.log-log.ensures.value long
    c.in_ok-write_long.ensures.answer)
