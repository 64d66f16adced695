use Rattle.std.proofs.Common.{ℕ, ◌≤◌, arith, take, length-take}
use Rattle.lsp_frame.proofs.Passing.{gone_nothing, gone_more}
use Rattle.lsp_frame.proofs.decoder.go_past.Goals as goal

pub loop-past-init : goal.loop-past-init
loop-past-init g c = (gone_nothing _, omega arith)

pub loop-past-preserved : goal.loop-past-preserved
loop-past-preserved g c =
    let fits = c.in_ok-count.ensures.count.0 in
    let within : c.in_ok-count.count ≤ c.min-wanted.result = omega (arith, c.pull.auto.buffer, length-take {A = ℕ}, fits) in
    let past = c.loop-past.invariant.0 in (
      gone_more _ _ _ c.loop-past.past c.in_ok-count.count (take c.in_ok-count.count c.pull.new.buffer) past c.in_ok-count.ensures.gave c.in_ok-count.ensures.failures (omega (arith, length-take c.in_ok-count.count c.pull.new.buffer, fits)),
      omega (arith, within, c.min-wanted.ensures, c.loop-past-test.true),
    )
