use Rattle.std.proofs.Common.{arith}
use Rattle.serde_json.specs.Data.{object}
use Rattle.lsp_walk.proofs.Walking.{whole_value}
use Rattle.lsp_outline.proofs.members.text_into.Goals as goal

pub returns : goal.returns
returns g c =
    let d = c.args.text.now in
    let bytes = c.as_bytes-bytes.ensures.value in
    let found = c.in_ok-end.ensures in
    let begin = c.spaces_end-from in
    let last = c.spaces_end in
    let read = whole_value d begin.result c.in_ok-end.end last.result (object found.0)
    (rw (← bytes) begin.ensures.same) found.1 (rw (← bytes) last.ensures.same)
    (rw (← bytes) (omega arith)) in
    (found.0, read, found.2)
