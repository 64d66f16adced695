use Rattle.lsp_lined.proofs.PlaceSteps.{whole_or_not}
use Rattle.lsp_lined.proofs.ends.is_whole.Goals as goal

pub returns : goal.returns
returns c = whole_or_not c.args.text.now c.of.result c.is_none.result c.utf8.text c.of.ensures c.is_none.ensures
