use Rattle.std.proofs.Common.{arith, drop, take, length-drop, length-take}
use Rattle.lsp_frame.proofs.Steps.{unfinished_end}
use Rattle.lsp_frame.proofs.decoder.Decoder.finish.Goals as goal

pub returns-in-None-2-clause-value : goal.returns-in-None-2-clause-value
returns-in-None-2-clause-value c = rw (← c.self.view_is) (unfinished_end c.self.inside.fault (drop c.self.inside.start (take c.self.inside.end c.self.inside.buffer.items)) c.in-None.is (omega (arith, length-drop c.self.inside.start (take c.self.inside.end c.self.inside.buffer.items), length-take c.self.inside.end c.self.inside.buffer.items, c.self.invariant.0, c.self.invariant.1)))
