use Rattle.std.proofs.Common.{None, chars, inl, inr, refl, sym}
use Rattle.std.proofs.lemmas.Result.{IfOk-weaker, on_err_weaker}
use Rattle.lsp_replay.proofs.Reading.{shown_silent}
use Rattle.lsp_replay.proofs.Seeing.{comes_of, fault_rule, fault_silent, fault_tries, saw_of}
use Rattle.lsp_replay.proofs.Seeing.{sound_here, speaks_here}
use Rattle.lsp_replay.proofs.Wanting.{on_err, read_wants}
use Rattle.lsp_verdict.specs.Event.{fault, snapshot}
use Rattle.lsp_verdict.specs.Given.{raw_view}
use Rattle.lsp_verdict.specs.Placed.{Reads}
use Rattle.lsp_replay.proofs.one_pass.see.Goals as goal

pub returns-in-Content-clause-saw : goal.returns-in-Content-clause-saw
returns-in-Content-clause-saw g c = c.see_content.ensures.saw

pub returns-in-Content-clause-memory : goal.returns-in-Content-clause-memory
returns-in-Content-clause-memory g c =
    rw c.in-Content.is (on_err c.see_content.result (λ terms before h comes.
    inl (read_wants comes)))

pub returns-in-Broken-clause-memory : goal.returns-in-Broken-clause-memory
returns-in-Broken-clause-memory g c =
    let at = c.in-Broken in
    on_err_weaker c.skip.result (λ wants terms before h comes.
    let reads : Reads (raw_view c.args.raw) (fault at.side at.rule) = rw at.is refl in
    inr (wants terms before h comes (fault_rule at.side at.rule comes reads)
    (fault_silent at.side at.rule comes reads) (fault_tries at.side at.rule comes reads _)))
    c.skip.ensures.memory

pub returns-in-Broken-clause-saw : goal.returns-in-Broken-clause-saw
returns-in-Broken-clause-saw g c =
    let at = c.in-Broken in
    IfOk-weaker c.skip.result _ _ (λ flow saw terms before h comes.
    let reads : Reads (raw_view c.args.raw) (fault at.side at.rule) = rw at.is refl in
    saw terms before h comes (fault_rule at.side at.rule comes reads)
    (fault_silent at.side at.rule comes reads) (fault_tries at.side at.rule comes reads _))
    c.skip.ensures.saw

pub returns-in-Snapshot-clause-memory : goal.returns-in-Snapshot-clause-memory
returns-in-Snapshot-clause-memory g c =
    let at = c.in-Snapshot in
    let event = snapshot at.uri.now at.version (chars at.text.now) in
    let read = c.as_read-read.ensures in
    on_err_weaker c.see_read.result (λ wants terms before h comes.
    let reads : Reads (raw_view c.args.raw) event = rw at.is refl in
    wants terms before h (comes_of (sym read.raw) comes) (sound_here event reads comes tt)
    (read.read _ h.note.event comes.stood.holds.sent comes.noted.0 (speaks_here event reads comes
    None (shown_silent at.uri.now at.version (chars at.text.now))))) c.see_read.ensures.memory

pub returns-in-Snapshot-clause-saw : goal.returns-in-Snapshot-clause-saw
returns-in-Snapshot-clause-saw g c =
    let at = c.in-Snapshot in
    let event = snapshot at.uri.now at.version (chars at.text.now) in
    let read = c.as_read-read.ensures in
    IfOk-weaker c.see_read.result _ _ (λ flow saw terms before h comes.
    let reads : Reads (raw_view c.args.raw) event = rw at.is refl in
    saw_of read.raw (saw terms before h (comes_of (sym read.raw) comes)
    (sound_here event reads comes tt)
    (read.read _ h.note.event comes.stood.holds.sent comes.noted.0 (speaks_here event reads comes
    None (shown_silent at.uri.now at.version (chars at.text.now)))))) c.see_read.ensures.saw
