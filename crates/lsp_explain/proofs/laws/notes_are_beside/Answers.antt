use Rattle.lsp_explain.proofs.NotesBeside.{notes_beside}
use Rattle.lsp_explain.proofs.laws.notes_are_beside.Goals as goal

pub returns : goal.returns
returns c = notes_beside
