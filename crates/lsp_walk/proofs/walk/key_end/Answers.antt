use Rattle.std.proofs.Common.{arith}
use Rattle.lsp_walk.proofs.Walking.{key_value}
use Rattle.lsp_walk.proofs.walk.key_end.Goals as goal

pub returns : goal.returns
returns c =
    let text = c.in_ok-close.ensures in
    let end = c.in_ok-end.ensures in (
      text.0,
      key_value c.args.bytes.now c.args.from c.in_ok-close.close c.in_ok-end.end text.0
          (grind arith) text.1 end.passed end.forward end.within,
    )
