use Rattle.std.proofs.Common.{arith}
use Rattle.lsp_frame.proofs.Steps.{moved_down}
use Rattle.lsp_log.proofs.tape.to_front.Goals as goal

pub returns-clause-front : goal.returns-clause-front
returns-clause-front c = rw c.copy_within.ensures.after (moved_down c.args.near.now c.args.start c.args.end c.requires.0 (omega (arith, c.requires.1, c.told-near)))
