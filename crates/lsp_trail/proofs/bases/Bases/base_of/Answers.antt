use Rattle.std.proofs.Common.{sym, ◌∙◌}
use Rattle.lsp_trail.proofs.BasesHeld.{map_same}
use Rattle.lsp_trail.proofs.bases.Bases.base_of.Goals as goal

pub returns : goal.returns
returns c = c.get.ensures.value ∙ sym (map_same _)
