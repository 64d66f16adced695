use Rattle.std.proofs.Common.{◌≡◌, ◌++◌}
use Rattle.std.specs.Prelude.{decimal}
use Rattle.std.proofs.lemmas.Result.{err_from_is_err_and}
use Rattle.lsp_frame.proofs.Writing.{stopped_before}
use Rattle.lsp_log.specs.Log.{chunk_head, head_line, with_feed}
use Rattle.lsp_log.proofs.Written.{due_stops, due_writes, writes_then, chunk_head_parts}
use Rattle.lsp_log.proofs.write.put_chunk_head.Goals as goal

pub returns-in_err-put_all : goal.returns-in_err-put_all
returns-in_err-put_all g c =
    let p = err_from_is_err_and c.from_residual.result c.from_residual.ensures.1 in
    let due : with_feed (head_line (chunk_head c.args.side c.args.len)) ≡ c.letter.result.now ++ with_feed (decimal c.args.len) = cc (chunk_head_parts c.args.side c.args.len, c.letter.ensures) in
    rw p.1 (due_stops _ _ _ _ due (stopped_before _ _ _ _ c.in_err-put_all.ensures))

pub returns : goal.returns
returns g c =
    let number : c.as_bytes.result.now ≡ decimal c.args.len = cc (c.as_bytes.ensures.value, c.format.ensures.text) in
    let due : with_feed (head_line (chunk_head c.args.side c.args.len)) ≡ c.letter.result.now ++ with_feed c.as_bytes.result.now = cc (chunk_head_parts c.args.side c.args.len, c.letter.ensures) in
    due_writes _ _ c.put_line.result _ _ due (writes_then _ _ _ c.put_line.result _ _ c.in_ok-put_all.ensures c.put_line.ensures)
