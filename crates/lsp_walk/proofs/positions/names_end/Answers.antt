use Rattle.std.proofs.Common.{arith}
use Rattle.std.proofs.lemmas.Bool.{eqb-true}
use Rattle.lsp_walk.proofs.Pairs.{end_stands}
use Rattle.lsp_walk.proofs.positions.names_end.Goals as goal

pub returns : goal.returns
returns c = λ same.
    end_stands c.args.bytes.now c.args.from c.args.before c.word_at.result
    c.from_le_bytes-word.result (omega arith) c.ranges.before.fits c.from_le_bytes-word.ensures
    c.word_at.ensures (eqb-true c.word_at.result c.from_le_bytes-word.result same)
