use Rattle.std.proofs.Common.{arith}
use Rattle.lsp_walk.proofs.positions.place_end.Goals as goal

pub returns-in_ok-end-in-108 : goal.returns-in_ok-end-in-108
returns-in_ok-end-in-108 c =
    let r = c.in_ok-end-in-108.ensures c.args.depth c.requires.depth in (r.0, r.1)

pub returns-in_ok-end-in_default : goal.returns-in_ok-end-in_default
returns-in_ok-end-in_default c =
    let r = c.in_ok-end-in_default.ensures c.args.depth (omega arith) in (r.0, r.1)
