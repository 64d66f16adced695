use Rattle.std.proofs.Common.{subst, sym}
use Rattle.lsp_walk.specs.Texts.{IsPart}
use Rattle.lsp_walk.proofs.LongBlocks.{before_stays}
use Rattle.lsp_walk.proofs.Parts.{written_part}
use Rattle.lsp_walk.proofs.texts.write_blocks.Goals as goal

pub blocks-2-preserved : goal.blocks-2-preserved
blocks-2-preserved c =
    let l = c.blocks-2 in
    let read = c.in_ok-next in (
      written_part c.args.bytes.now c.args.from l.at read.next l.room l.len c.write_block.new.room
          read.end l.invariant.0 read.ensures.part,
      read.ensures.part.within,
    )

pub returns-then-next-at-clause-part : goal.returns-then-next-at-clause-part
returns-then-next-at-clause-part c =
    let l = c.blocks-2 in
    subst (IsPart c.args.bytes.now c.args.from l.at)
    (sym (before_stays c.in_ok-next.ensures.part l.invariant.1)) l.invariant.0
