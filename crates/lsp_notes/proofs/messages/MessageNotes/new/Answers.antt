use Rattle.lsp_notes.proofs.messages.MessageNotes.new.Goals as goal

pub returns : goal.returns
returns c = λ terms. record {
  refusals = c.new.ensures terms;
  spellings = c.new-2.ensures terms;
  server = c.new-3.ensures terms;
}
