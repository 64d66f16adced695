use Rattle.std.proofs.Common.{◌≡◌, get_or, refl, arith}
use Rattle.serde_json.specs.Data.{null}
use Rattle.lsp_outline.proofs.Outlining.{some_id}
use Rattle.lsp_walk.proofs.Walking.{null_value}
use Rattle.lsp_outline.proofs.message.id_or_null_at.Goals as goal

pub returns-then-byte_at-eq110 : goal.returns-then-byte_at-eq110
returns-then-byte_at-eq110 c =
    let d = c.args.text.now in
    let bytes = c.as_bytes-bytes.ensures.value in
    let read = c.in_ok-end in
    let first : get_or d c.args.from 0 ≡ 110 = rw (← bytes) (grind arith) in (
      null,
      (λ depth. null_value depth d c.args.from read.end first (rw (← bytes) read.ensures)),
      refl,
    )

pub returns : goal.returns
returns c =
    let read = c.in_ok-id.ensures in
    (read.0, read.1, some_id read.0 _ read.2)
