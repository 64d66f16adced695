use Rattle.std.proofs.lemmas.Result.{on_ok_weaker}
use Rattle.lsp_notes.proofs.misfits.Misfits.note_call.Goals as goal

pub returns : goal.returns
returns c = rw c.in-Changes.is (on_ok_weaker c.note_length.result (λ noted. record {
  past_ends_more = c.in_ok-note_past_end.ensures;
  range_lengths_more = noted;
}) c.note_length.ensures)
