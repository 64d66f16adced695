use Rattle.lsp_text.proofs.LineEnds.{none_inside_line_end}
use Rattle.lsp_text.proofs.laws.line_ends_are_whole.Goals as goal

pub returns : goal.returns
returns c = none_inside_line_end
