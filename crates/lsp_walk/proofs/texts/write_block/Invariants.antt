use Rattle.std.proofs.Common.{◌+◌, ◌-◌}
use Rattle.lsp_walk.proofs.LongBlocks.{BlockSoFar}
use Rattle.lsp_walk.proofs.texts.write_block.Given as goal

abbrev pub invariant-loop-stops : goal.invariant-loop-stops
invariant-loop-stops l =
    BlockSoFar l.bytes l.fn.at l.at l.fn.room l.fn.len l.room l.len l.stops

abbrev pub decreases-loop-stops : goal.decreases-loop-stops
decreases-loop-stops l = l.fn.at + 66 - l.at
