use Rattle.std.proofs.lemmas.Result.{err_from_is_err_and}
use Rattle.lsp_frame.proofs.Writing.{stopped_before}
use Rattle.lsp_log.proofs.Written.{due_stops, due_writes, stopped_second_of, writes_three, chunk_parts}
use Rattle.lsp_log.proofs.write.write_chunk.Goals as goal

pub returns-in_err-put_chunk_head : goal.returns-in_err-put_chunk_head
returns-in_err-put_chunk_head g c =
    let p = err_from_is_err_and c.from_residual.result c.from_residual.ensures.1 in
    rw p.1 (due_stops _ _ _ _ (chunk_parts c.args.side c.args.front.now c.args.back.now) (stopped_before _ _ _ _ c.in_err-put_chunk_head.ensures))

pub returns-in_err-put_all : goal.returns-in_err-put_all
returns-in_err-put_all g c =
    let p = err_from_is_err_and c.from_residual-in_err-put_all.result c.from_residual-in_err-put_all.ensures.1 in
    rw p.1 (due_stops _ _ _ _ (chunk_parts c.args.side c.args.front.now c.args.back.now) (stopped_second_of _ _ _ _ _ _ c.in_ok-put_chunk_head.ensures c.in_err-put_all.ensures))

pub returns : goal.returns
returns g c =
    due_writes _ _ c.put_line.result _ _ (chunk_parts c.args.side c.args.front.now c.args.back.now)
    (writes_three _ _ _ _ c.put_line.result _ _ _ c.in_ok-put_chunk_head.ensures c.in_ok-put_all.ensures c.put_line.ensures)
