use Rattle.lsp_extract.proofs.Seeking.Laws.{event_is_numbered}
use Rattle.lsp_extract.proofs.event_laws.event_is_numbered.Goals as goal

pub returns : goal.returns
returns c = event_is_numbered
