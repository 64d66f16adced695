use Rattle.std.proofs.Common.{◌+◌, ap, sym}
use Rattle.lsp_text.proofs.Counting.{units-utf8_text}
use Rattle.lsp_trail.specs.SentEdits.{per_change}
use Rattle.lsp_trail.proofs.base.size_of_text.Goals as goal

pub returns : goal.returns
returns c = ap (λ n. per_change + n) (sym (units-utf8_text c.args.text.now c.utf8.text))
