use Rattle.lsp_extract.proofs.Seeking.Laws.{some_event}
use Rattle.lsp_extract.proofs.event_laws.some_event.Goals as goal

pub returns : goal.returns
returns c = some_event
