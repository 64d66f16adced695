use Rattle.std.specs.Str.{chars}
use Rattle.lsp_lined.specs.LentLines.{line_of}
use Rattle.lsp_text.specs.Places.{units}
use Rattle.lsp_lined.proofs.PastEnds.{before_end, not_past}
use Rattle.lsp_lined.proofs.lined.lines.LentLine.extent.Goals as goal

pub returns-then-offset-self : goal.returns-then-offset-self
returns-then-offset-self c =
    not_past (units c.args.encoding (chars (line_of c.args.self.now))) c.args.column
    (before_end c.args.encoding c.args.self.now c.args.column c.args.offset c.requires.line
    c.requires.place c.if-offset-self.true)
