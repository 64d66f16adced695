use Rattle.std.proofs.Common.{◌∙◌}
use Rattle.lsp_notes.proofs.DocumentNoting.{held_on}
use Rattle.lsp_notes.proofs.document_notes.has_note.Goals as goal

pub returns : goal.returns
returns c = c.any_on.ensures ∙ held_on c.args.uri.now c.args.notes.now
