use Rattle.lsp_text.proofs.SameByLines.{same_by_lines}
use Rattle.lsp_text.proofs.laws.same_by_lines.Goals as goal

pub returns : goal.returns
returns c = same_by_lines
