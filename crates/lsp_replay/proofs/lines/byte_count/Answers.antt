use Rattle.std.proofs.Common.{sym}
use Rattle.lsp_text.proofs.Counting.{units-utf8_text}
use Rattle.lsp_replay.proofs.lines.byte_count.Goals as goal

pub returns : goal.returns
returns c = sym (units-utf8_text c.args.text.now c.utf8.text)
