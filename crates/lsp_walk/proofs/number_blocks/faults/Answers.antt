use Rattle.lsp_walk.proofs.NumberBlocks.{marked_faults}
use Rattle.lsp_walk.proofs.number_blocks.faults.Goals as goal

pub returns : goal.returns
returns c =
    marked_faults c.args.here c.args.next c.args.after c.requires.0 c.requires.1 c.requires.2
