use Rattle.lsp_walk.proofs.Blocks.{marked}
use Rattle.lsp_walk.proofs.texts.stops.Goals as goal

pub returns : goal.returns
returns g c = marked c.args.block g.row.N c.requires.0 c.requires.1
