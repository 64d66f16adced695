use Rattle.lsp_extract.proofs.Seeking.Laws.{one_event}
use Rattle.lsp_extract.proofs.event_laws.one_event.Goals as goal

pub returns : goal.returns
returns c = one_event
