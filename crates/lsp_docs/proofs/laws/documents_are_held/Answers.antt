use Rattle.lsp_docs.proofs.Standing.{documents-held, documents-once}
use Rattle.lsp_docs.proofs.laws.documents_are_held.Goals as goal

pub returns : goal.returns
returns c = record { each = documents-held; once = documents-once }
