use Rattle.lsp_walk.proofs.DigitBlocks.{marked_others}
use Rattle.lsp_walk.proofs.numbers.DigitsRun.stops.Goals as goal

pub returns : goal.returns
returns c = marked_others c.args.block c.requires
