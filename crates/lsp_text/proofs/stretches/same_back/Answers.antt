use Rattle.std.proofs.Common.{◌-◌, arith}
use Rattle.lsp_text.proofs.CommonEnds.{fewer_ends}
use Rattle.lsp_text.proofs.stretches.same_back.Goals as goal

pub loop-same-preserved : goal.loop-same-preserved
loop-same-preserved c =
    fewer_ends c.args.a.now c.args.b.now c.loop-same.same (c.loop-same.same - 1)
    c.loop-same.invariant (omega arith)
