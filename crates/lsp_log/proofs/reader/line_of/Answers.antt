use Rattle.lsp_log.proofs.Lines.{line_searched, no_line_searched}
use Rattle.lsp_log.proofs.reader.line_of.Goals as goal

pub returns-in-Some : goal.returns-in-Some
returns-in-Some c = line_searched c.args.bytes.now c.in-Some.end c.in-Some.ensures.0 c.in-Some.ensures.1

pub returns-in-None : goal.returns-in-None
returns-in-None c = no_line_searched c.args.bytes.now c.in-None.ensures
