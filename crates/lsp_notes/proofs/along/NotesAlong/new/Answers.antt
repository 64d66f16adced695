use Rattle.std.proofs.Common.{refl}
use Rattle.lsp_notes.proofs.along.NotesAlong.new.Goals as goal

pub returns : goal.returns
returns c = λ terms. record {
  misfits = c.new.ensures;
  messages = c.new-2.ensures terms;
  broken = refl;
  behind = c.new-3.ensures terms;
  refused = refl;
  told_are = refl;
}
