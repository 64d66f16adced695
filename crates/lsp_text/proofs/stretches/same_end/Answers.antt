use Rattle.std.proofs.Common.{refl, arith}
use Rattle.lsp_text.proofs.CommonEnds.{more_ends}
use Rattle.lsp_text.proofs.stretches.same_end.Goals as goal

pub blocks-2-preserved : goal.blocks-2-preserved
blocks-2-preserved c =
    more_ends c.args.a.now c.args.b.now c.blocks-2.same 64 c.blocks-2.invariant (omega arith)
    (omega arith) (c.if-is_same_block.ensures.0 refl)
