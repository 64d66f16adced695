use Rattle.lsp_notes.proofs.ServerNoting.{notes_taken}
use Rattle.lsp_notes.proofs.server_edits.ServerEdits.note_all.Goals as goal

pub loop-one-preserved : goal.loop-one-preserved
loop-one-preserved c = λ terms before event now.
    notes_taken terms before event c.args.edited.now c.loop-one.one-index c.one-item.result
    c.args.self.now c.loop-one.self c.note_edited.new.self c.loop-one-test.true c.one-item.is
    (c.loop-one.invariant terms before event now)
    (c.in_ok-note_edited.ensures terms before event now)
