use Rattle.std.proofs.Common.{◌+◌, get_or, arith}
use Rattle.std.proofs.lemmas.Bool.{eqb-true}
use Rattle.lsp_walk.proofs.Pairs.{start_stands}
use Rattle.lsp_walk.proofs.positions.names_start.Goals as goal

pub returns : goal.returns
returns c = λ same.
    start_stands c.args.bytes.now c.args.from c.args.before c.word_at.result
    c.from_le_bytes-front.result (omega arith) c.ranges.before.fits c.from_le_bytes-front.ensures
    c.word_at.ensures c.if-word_at-front.false
    (eqb-true (get_or c.args.bytes.now (c.args.from + 8) 0) 58 same)
