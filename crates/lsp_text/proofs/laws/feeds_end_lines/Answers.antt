use Rattle.lsp_text.proofs.SameTexts.{feeds_end_lines}
use Rattle.lsp_text.proofs.laws.feeds_end_lines.Goals as goal

pub returns : goal.returns
returns c = feeds_end_lines
