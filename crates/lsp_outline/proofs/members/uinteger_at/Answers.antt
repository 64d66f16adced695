use Rattle.std.proofs.Common.{arith}
use Rattle.serde_json.specs.Data.{number, unsigned}
use Rattle.lsp_outline.proofs.Editing.{small_natural}
use Rattle.lsp_walk.proofs.Walking.{numeral_value}
use Rattle.lsp_outline.proofs.members.uinteger_at.Goals as goal

pub returns-then-n-clause-read : goal.returns-then-n-clause-read
returns-then-n-clause-read c =
    let d = c.args.text.now in
    let n = c.in_ok-n.n in
    let end = c.in_ok-n.end in (
      number (unsigned n),
      numeral_value d c.args.from end n
          (rw (← c.as_bytes.ensures.value) c.in_ok-n.ensures),
      small_natural n (omega arith),
    )
