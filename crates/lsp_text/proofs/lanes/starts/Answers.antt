use Rattle.lsp_text.proofs.Starts.{started}
use Rattle.lsp_text.proofs.lanes.starts.Goals as goal

pub returns : goal.returns
returns c = started c.args.block c.requires
