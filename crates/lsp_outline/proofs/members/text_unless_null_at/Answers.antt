use Rattle.std.proofs.Common.{◌≡◌, get_or, refl, string_bytes, arith}
use Rattle.serde_json.specs.Data.{null, string}
use Rattle.lsp_walk.proofs.Walking.{null_value}
use Rattle.lsp_outline.proofs.members.text_unless_null_at.Goals as goal

pub returns-then-byte_at-eq110 : goal.returns-then-byte_at-eq110
returns-then-byte_at-eq110 c =
    let d = c.args.text.now in
    let bytes = c.as_bytes-bytes.ensures.value in
    let read = c.in_ok-end in
    let first : get_or d c.args.from 0 ≡ 110 = rw (← bytes) (grind arith) in (
      null,
      (λ depth. null_value depth d c.args.from read.end first (rw (← bytes) read.ensures)),
      refl,
    )

pub returns : goal.returns
returns c = (string (string_bytes c.in_ok-copy.copy), c.in_ok-copy.ensures, refl)
