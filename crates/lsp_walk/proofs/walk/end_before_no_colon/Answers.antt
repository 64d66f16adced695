use Rattle.std.proofs.Common.{arith}
use Rattle.lsp_walk.proofs.Walking.{no_colon_at}
use Rattle.lsp_walk.proofs.walk.end_before_no_colon.Goals as goal

pub returns-clause-ended : goal.returns-clause-ended
returns-clause-ended c =
    no_colon_at c.args.bytes.now c.spaces_end-end.result c.spaces_end-end.ensures.ended
    (grind arith)
