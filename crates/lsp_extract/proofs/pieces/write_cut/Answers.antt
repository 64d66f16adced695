use Rattle.std.proofs.Common.{◌+◌, ◌<◌, length, arith}
use Rattle.std.proofs.lemmas.Bool.Decides.{nat_tests}
use Rattle.std.proofs.lemmas.List.{take_rest}
use Rattle.std.proofs.lemmas.Result.{err_from_is_err_and}
use Rattle.lsp_extract.proofs.Forming.Pieces.{due_some, put_one, put_part}
use Rattle.lsp_extract.proofs.pieces.write_cut.Goals as goal

pub returns-in_err-write_chunk : goal.returns-in_err-write_chunk
returns-in_err-write_chunk g c =
    let p = err_from_is_err_and c.from_residual.result c.from_residual.ensures.1 in
    let front = c.loop-front.front.now in
    let back = c.loop-front.back.now in
    let some : 0 < length front + length back = grind (arith, nat_tests) in
    let is = due_some c.args.size c.min-first.result c.min-second.result c.args.side front back
    c.requires some c.min-first.ensures c.min-second.ensures in
    let so_far = rw is at c.loop-front.invariant in
    rw p.1 (put_part _ _ _ _ _ _ so_far c.in_err-write_chunk.ensures)

pub loop-front-preserved : goal.loop-front-preserved
loop-front-preserved g c =
    let front = c.loop-front.front.now in
    let back = c.loop-front.back.now in
    let some : 0 < length front + length back = grind (arith, nat_tests) in
    let is = due_some c.args.size c.min-first.result c.min-second.result c.args.side front back
    c.requires some c.min-first.ensures c.min-second.ensures in
    let so_far = rw is at c.loop-front.invariant in
    let more = put_one _ _ _ _ _ _ so_far c.in_ok-write_chunk.ensures in
    rw (take_rest front c.min-first.result, take_rest back c.min-second.result) more
