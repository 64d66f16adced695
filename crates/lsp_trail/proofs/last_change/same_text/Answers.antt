use Rattle.std.proofs.Common.{◌∙◌}
use Rattle.lsp_docs.proofs.Others.{same_characters}
use Rattle.lsp_trail.proofs.last_change.same_text.Goals as goal

pub returns : goal.returns
returns c = c.eq.ensures ∙ same_characters c.args.text.now c.args.other.now c.utf8.text c.utf8.other
