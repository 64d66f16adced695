use Rattle.std.proofs.Common.{rules}
use Rattle.lsp_survey.proofs.notes.note.Notes.is_lost.Goals as goal

pub returns-in-Some-get : goal.returns-in-Some-get
returns-in-Some-get c = rw (c.in-Some.is, ← c.uri-uri.ensures) (search rules)
