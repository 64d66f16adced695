use Rattle.std.proofs.Common.{ap, sym}
use Rattle.std.specs.Prelude.{nat_lt}
use Rattle.lsp_text.proofs.Counting.{units-utf8_text}
use Rattle.lsp_docs.proofs.docs.is_over.Goals as goal

pub returns : goal.returns
returns c = ap (nat_lt c.args.limit) (sym (units-utf8_text c.args.text.now c.utf8.text))
