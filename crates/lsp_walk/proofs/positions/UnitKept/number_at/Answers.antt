use Rattle.lsp_walk.proofs.Walking.{number_value}
use Rattle.lsp_walk.proofs.positions.UnitKept.number_at.Goals as goal

pub returns-clause-read : goal.returns-clause-read
returns-clause-read c = λ may.
    let found =
    number_value c.args.bytes.now c.args.from c.in_ok-end.end (c.in_ok-end.ensures.number may) in
    (found.0, found.1, tt)
