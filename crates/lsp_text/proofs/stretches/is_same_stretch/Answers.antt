use Rattle.lsp_text.proofs.AlikeLanes.{same_stretch}
use Rattle.lsp_text.proofs.stretches.is_same_stretch.Goals as goal

pub returns : goal.returns
returns c = same_stretch c.args.at c.args.a.now c.args.b.now c.requires.a c.requires.b
