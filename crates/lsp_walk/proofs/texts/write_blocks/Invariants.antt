use Rattle.std.proofs.Common.{◌-◌, ◌≤◌, length, take}
use Rattle.lsp_walk.specs.Texts.{IsPart}
use Rattle.lsp_walk.proofs.texts.write_blocks.Given as goal

abbrev pub invariant-blocks-2 : goal.invariant-blocks-2
invariant-blocks-2 l = IsPart l.bytes l.from l.at (take l.len l.room) × (l.len ≤ length l.room)

abbrev pub decreases-blocks-2 : goal.decreases-blocks-2
decreases-blocks-2 l = length l.bytes - l.at
