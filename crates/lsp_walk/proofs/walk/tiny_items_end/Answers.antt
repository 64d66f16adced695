use Rattle.std.proofs.Common.{arith}
use Rattle.lsp_walk.proofs.Walking.{tiny_turn}
use Rattle.lsp_walk.proofs.walk.tiny_items_end.Goals as goal

pub items-init : goal.items-init
items-init c = (λ depth begin old. old, omega arith, omega arith)

pub items-preserved : goal.items-preserved
items-preserved c =
    let d = c.args.bytes.now in
    let l = c.items in
    let found = c.in-Some in
    let again = c.spaces_end-at in (
      (λ depth begin old. tiny_turn depth d begin l.at found.comma again.result found.ensures.number
          found.ensures.comma again.ensures.same again.ensures.forward again.ensures.within
          (l.invariant.0 depth begin old)),
      omega (arith, l.invariant.1, again.ensures.forward, found.ensures.number.forward),
      again.ensures.within,
    )
