use Rattle.lsp_text.proofs.AlikeLanes.{same_block}
use Rattle.lsp_text.proofs.stretches.is_same_block.Goals as goal

pub returns : goal.returns
returns c = same_block c.args.at c.args.there c.args.a.now c.args.b.now c.requires.a c.requires.b
