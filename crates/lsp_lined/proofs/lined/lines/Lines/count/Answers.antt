use Rattle.std.proofs.Common.{sym, arith}
use Rattle.lsp_lined.proofs.HeldText.{holds}
use Rattle.lsp_lined.proofs.lined.lines.Lines.count.Goals as goal

pub overflow_add-result : goal.overflow_add-result
overflow_add-result c = let h = holds c.self.inside.held c.args.self.now c.self.invariant c.self.view_is in record { fits = omega (arith, h.most, h.fits) }

pub returns : goal.returns
returns c = sym (holds c.self.inside.held c.args.self.now c.self.invariant c.self.view_is).lines
