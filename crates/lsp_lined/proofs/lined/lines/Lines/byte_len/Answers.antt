use Rattle.lsp_lined.proofs.HeldText.{holds}
use Rattle.lsp_lined.proofs.lined.lines.Lines.byte_len.Goals as goal

pub returns-clause-utf8 : goal.returns-clause-utf8
returns-clause-utf8 c = (holds c.self.inside.held c.args.self.now c.self.invariant c.self.view_is).utf8
