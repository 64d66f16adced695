use Rattle.std.proofs.Common.{arith}
use Rattle.std.proofs.lemmas.Bool.{eqb-true}
use Rattle.lsp_walk.proofs.Pairs.{line_stands}
use Rattle.lsp_walk.proofs.positions.names_line.Goals as goal

pub returns : goal.returns
returns c = λ same.
    line_stands c.args.bytes.now c.args.from c.args.before c.word_at.result
    c.from_le_bytes-key.result (omega arith) c.ranges.before.fits c.from_le_bytes-key.ensures
    c.word_at.ensures (eqb-true c.word_at.result c.from_le_bytes-key.result same)
