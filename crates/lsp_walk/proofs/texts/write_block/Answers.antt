use Rattle.std.proofs.Common.{◌+◌, ◌≤◌, refl, arith}
use Rattle.std.proofs.lemmas.List.{length-set}
use Rattle.std.proofs.lemmas.Option.{IfSome_then}
use Rattle.std.proofs.lemmas.Simd.{length-chunk}
use Rattle.std.specs.Int.Count.{count_trailing_zeros}
use Rattle.lsp_walk.proofs.LongBlocks.{begun, first_stop, to_stop, to_end, past_escape, written_on}
use Rattle.lsp_walk.proofs.texts.write_block.Goals as goal

pub stops-stops-requires : goal.stops-stops-requires
stops-stops-requires c =
    let long = length-chunk c.args.at 64 c.args.bytes.now (omega arith) in
    let few : 64 ≤ 64 = omega arith in
    (omega arith, (long, few))

pub loop-stops-init : goal.loop-stops-init
loop-stops-init c =
    begun c.args.bytes.now c.args.at c.args.room.now c.args.len c.copy_block.new.room
    c.stops-stops.result (omega arith) (omega arith) c.copy_block.ensures.len
    c.copy_block.ensures.written c.stops-stops.ensures

pub returns-then-bytes-at-ne92-clause-part : goal.returns-then-bytes-at-ne92-clause-part
returns-then-bytes-at-ne92-clause-part c =
    to_stop c.loop-stops.invariant (omega arith) (omega arith) (omega arith)

pub write_escape-requires-clause-room : goal.write_escape-requires-clause-room
write_escape-requires-clause-room c =
    let so = c.loop-stops.invariant in
    let stop = first_stop so (omega arith) (omega arith) in
    omega (arith, stop.1, so.fewer)

pub returns-then-escaped-eq0-clause-part : goal.returns-then-escaped-eq0-clause-part
returns-then-escaped-eq0-clause-part c =
    let before = to_stop c.loop-stops.invariant (omega arith) (omega arith) (omega arith) in
    IfSome_then c.write_escape.result c.write_escape.ensures.part (λ r then. written_on before then)

pub copy_block-requires-in-loop-stops : goal.copy_block-requires-in-loop-stops
copy_block-requires-in-loop-stops c =
    let so = c.loop-stops.invariant in
    let stop = first_stop so (omega arith) (omega arith) in
    let room = c.loop-stops.room in
    let same = length-set room (c.loop-stops.len + count_trailing_zeros 64 c.loop-stops.stops)
    c.short_escape-escaped.result in
    (omega (arith, stop.1, so.fewer, same), omega (arith, stop.1))

pub loop-stops-preserved : goal.loop-stops-preserved
loop-stops-preserved c =
    past_escape (count_trailing_zeros 64 c.loop-stops.stops) c.short_escape-escaped.result
    c.copy_block-in-loop-stops.new.room c.loop-stops.invariant (omega arith) (omega arith)
    (omega arith) refl (omega arith) c.short_escape-escaped.ensures (omega arith)
    c.copy_block-in-loop-stops.ensures.written
    c.copy_block-in-loop-stops.ensures.len

pub returns-then-at-end-clause-part : goal.returns-then-at-end-clause-part
returns-then-at-end-clause-part c =
    to_end c.loop-stops.invariant (omega arith) (omega arith) (omega arith) (omega arith)
