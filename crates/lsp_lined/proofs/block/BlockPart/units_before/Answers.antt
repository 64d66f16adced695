use Rattle.lsp_lined.proofs.BlockPlaces.{block_width, block_plain_width}
use Rattle.lsp_lined.proofs.block.BlockPart.units_before.Goals as goal

pub returns-then-offset-sums : goal.returns-then-offset-sums
returns-then-offset-sums c =
    let sums = c.sums-sums in
    block_width c.args.encoding c.args.self.now sums.result c.by.result c.args.offset
    sums.ensures.utf8 sums.ensures.sums c.by.ensures c.if-offset-sums.true

pub returns-then-sums : goal.returns-then-sums
returns-then-sums c =
    let sums = c.sums-sums in
    block_plain_width c.args.encoding c.args.self.now sums.result c.args.offset
    sums.ensures.utf8 sums.ensures.sums c.requires c.if-sums.true
