use Rattle.lsp_text.proofs.Starts.{utf16_started, utf16_fit}
use Rattle.lsp_text.proofs.lanes.utf16_starts.Goals as goal

pub overflow_add-result : goal.overflow_add-result
overflow_add-result c = utf16_fit c.args.block c.starts.result c.requires c.starts.ensures

pub returns : goal.returns
returns c = utf16_started c.args.block c.starts.result c.requires c.starts.ensures
