use Rattle.std.proofs.Common.{ap, ◌∙◌}
use Rattle.lsp_lined.specs.Sums.{sums_of}
use Rattle.lsp_lined.proofs.HeldText.{holds}
use Rattle.lsp_lined.proofs.lined.lines.Lines.sums.Goals as goal

pub returns-clause-value : goal.returns-clause-value
returns-clause-value c = c.self.invariant.sums ∙ ap sums_of c.self.view_is

pub returns-clause-utf8 : goal.returns-clause-utf8
returns-clause-utf8 c = (holds c.self.inside.held c.args.self.now c.self.invariant c.self.view_is).utf8
