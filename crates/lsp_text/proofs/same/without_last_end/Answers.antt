use Rattle.std.proofs.Common.{refl}
use Rattle.lsp_text.proofs.SameTexts.{before_last}
use Rattle.lsp_text.proofs.same.without_last_end.Goals as goal

pub returns : goal.returns
returns c = before_last c.args.text.now c.unwrap_or.result c.args.text c.before_last_end.result refl
    c.unwrap_or.ensures c.before_last_end.ensures
