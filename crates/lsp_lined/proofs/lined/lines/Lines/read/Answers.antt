use Rattle.std.proofs.Common.{ap, ◌∙◌}
use Rattle.lsp_lined.specs.Steps.{raised}
use Rattle.lsp_lined.proofs.LentPlaces.{lent_utf8, lent_bytes}
use Rattle.lsp_lined.proofs.lined.lines.Lines.read.Goals as goal

pub returns-clause-counted : goal.returns-clause-counted
returns-clause-counted c =
    let bs = c.args.self.now in
    let line = c.peek-line.result in
    c.add.ensures ∙ ap (raised c.args.steps.now) (lent_bytes bs c.args.i line (lent_utf8 bs c.args.i line c.peek-line.ensures) c.peek-line.ensures)
