use Rattle.std.proofs.Common.{arith}
use Rattle.std.proofs.lemmas.Bool.{eqb-true}
use Rattle.lsp_walk.proofs.Pairs.{character_stands}
use Rattle.lsp_walk.proofs.positions.names_character.Goals as goal

pub returns : goal.returns
returns c = λ same.
    character_stands c.args.bytes.now c.args.from c.args.before c.word_at.result
    c.from_le_bytes-front.result c.word_at-2.result c.from_le_bytes-back.result (omega arith)
    c.ranges.before.fits c.from_le_bytes-front.ensures c.word_at.ensures c.if-word_at-front.false
    c.from_le_bytes-back.ensures c.word_at-2.ensures
    (eqb-true c.word_at-2.result c.from_le_bytes-back.result same)
