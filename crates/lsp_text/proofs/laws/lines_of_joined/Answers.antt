use Rattle.lsp_text.proofs.JoinedLines.{lines_are_joined}
use Rattle.lsp_text.proofs.laws.lines_of_joined.Goals as goal

pub returns : goal.returns
returns c = lines_are_joined
