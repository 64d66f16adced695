use Rattle.std.proofs.Common.{◌≡◌, ◌++◌, length, w32}
use mir.Val.{to_z, of_z}
use Rattle.std.proofs.lemmas.Int.{to_z-of_z}
use Rattle.std.proofs.lemmas.Result.{err_from_is_err_and}
use Rattle.lsp_frame.proofs.Writing.{stopped_before}
use Rattle.lsp_log.specs.Log.{spelling, shown, shown_head, head_line, with_feed}
use Rattle.lsp_log.proofs.Written.{due_stops, due_writes, stopped_second_of, writes_three, shown_parts}
use Rattle.lsp_log.proofs.write.write_snapshot.Goals as goal

pub returns-in_err-put_snapshot_head : goal.returns-in_err-put_snapshot_head
returns-in_err-put_snapshot_head g c =
    let p = err_from_is_err_and c.from_residual.result c.from_residual.ensures.1 in
    let version = to_z-of_z w32 c.args.version c.ranges.version in
    let head = with_feed (head_line (shown_head (to_z w32 (of_z w32 c.args.version)) (length c.args.uri.now) (length c.args.text.now))) in
    let due : spelling (shown c.args.version c.args.uri.now c.args.text.now) ≡ head ++ (with_feed c.args.uri.now ++ with_feed c.args.text.now) = cc (shown_parts c.args.version c.args.uri.now c.args.text.now) in
    rw p.1 (due_stops _ _ _ _ due (stopped_before _ _ head (with_feed c.args.uri.now ++ with_feed c.args.text.now) c.in_err-put_snapshot_head.ensures))

pub returns-in_err-put_line : goal.returns-in_err-put_line
returns-in_err-put_line g c =
    let p = err_from_is_err_and c.from_residual-in_err-put_line.result c.from_residual-in_err-put_line.ensures.1 in
    let version = to_z-of_z w32 c.args.version c.ranges.version in
    let head = with_feed (head_line (shown_head (to_z w32 (of_z w32 c.args.version)) (length c.args.uri.now) (length c.args.text.now))) in
    let due : spelling (shown c.args.version c.args.uri.now c.args.text.now) ≡ head ++ (with_feed c.as_bytes.result.now ++ with_feed c.args.text.now) = cc (shown_parts c.args.version c.args.uri.now c.args.text.now, c.as_bytes.ensures.value) in
    rw p.1 (due_stops _ _ _ _ due (stopped_second_of _ _ _ head _ _ c.in_ok-put_snapshot_head.ensures c.in_err-put_line.ensures))

pub returns : goal.returns
returns g c =
    let version = to_z-of_z w32 c.args.version c.ranges.version in
    let head = with_feed (head_line (shown_head (to_z w32 (of_z w32 c.args.version)) (length c.args.uri.now) (length c.args.text.now))) in
    let due : spelling (shown c.args.version c.args.uri.now c.args.text.now) ≡ head ++ (with_feed c.as_bytes.result.now ++ with_feed c.as_bytes-2.result.now) = cc (shown_parts c.args.version c.args.uri.now c.args.text.now, c.as_bytes.ensures.value, c.as_bytes-2.ensures.value) in
    due_writes _ _ c.put_line-2.result _ _ due (writes_three _ _ _ _ c.put_line-2.result head _ _ c.in_ok-put_snapshot_head.ensures c.in_ok-put_line.ensures c.put_line-2.ensures)
