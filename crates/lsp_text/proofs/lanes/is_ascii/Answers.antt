use Rattle.lsp_text.proofs.WideLanes.{none_wide}
use Rattle.lsp_text.proofs.lanes.is_ascii.Goals as goal

pub returns : goal.returns
returns c = none_wide c.args.block c.requires
