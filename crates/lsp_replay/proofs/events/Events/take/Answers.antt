use Rattle.std.proofs.Common.{chars, refl, subst, sym}
use Rattle.std.proofs.lemmas.Result.{err_from_is_err_and}
use Rattle.lsp_verdict.specs.Event.{fault, snapshot}
use Rattle.lsp_verdict.specs.Given.{raw_view}
use Rattle.lsp_verdict.specs.Placed.{Reads}
use Rattle.lsp_verdict.specs.declared.raw.Raw.{Raw}
use Rattle.lsp_replay.specs.Keeping.{RefusesEvent}
use Rattle.lsp_replay.proofs.Following.{keeps, refused_for}
use Rattle.lsp_replay.proofs.Hearing.{unread_for}
use Rattle.lsp_replay.proofs.Reading.{content_sound, shown_silent}
use Rattle.lsp_replay.proofs.events.Events.take.Goals as goal

pub returns-in_err-read_into-in-Content-clause-rule :
    goal.returns-in_err-read_into-in-Content-clause-rule
returns-in_err-read_into-in-Content-clause-rule g c =
    let at = c.in-Content in
    let p = err_from_is_err_and c.from_residual.result c.from_residual.ensures.1 in
    rw (p.1, at.is) (λ events holds.
    rw p.2 (unread_for at.side at.content.now c.args.self.now.docs.terms events _
    c.in_err-read_into-in-Content.ensures.rule))

pub returns-in_err-keep-in-Content-clause-rule : goal.returns-in_err-keep-in-Content-clause-rule
returns-in_err-keep-in-Content-clause-rule g c =
    let at = c.in-Content in
    let from = c.from_residual-in_err-keep-in-Content in
    let p = err_from_is_err_and from.result from.ensures.1 in
    let read = c.as_read-read.ensures in
    rw p.1 (λ events holds.
    let is = c.in_ok-read_into-in-Content.ensures.ok events holds.sent in
    let reads = subst (λ (r : Raw). Reads (raw_view r) is.0) (sym at.is) is.1 in
    let refuses = c.in_err-keep-in-Content.ensures.rule events is.0 holds
    (content_sound events at.side at.content.now _ is)
    (read.read events is.0 holds.sent reads (at.side, is.2)) in
    rw p.2 (refused_for (raw_view c.args.raw) c.args.self.now.docs.terms events is.0 reads _
    (subst (λ (r : Raw). RefusesEvent (raw_view r) c.args.self.now.docs.terms events is.0
    c.in_err-keep-in-Content.field-0.0) read.raw refuses)))

pub returns-in_err-keep-in-Content-clause-err : goal.returns-in_err-keep-in-Content-clause-err
returns-in_err-keep-in-Content-clause-err g c =
    let at = c.in-Content in
    let from = c.from_residual-in_err-keep-in-Content in
    let p = err_from_is_err_and from.result from.ensures.1 in
    rw p.1 (λ events holds.
    let is = c.in_ok-read_into-in-Content.ensures.ok events holds.sent in
    c.in_err-keep-in-Content.ensures.err events is.0 holds
    (content_sound events at.side at.content.now _ is)
    (c.as_read-read.ensures.read events is.0 holds.sent
    (subst (λ (r : Raw). Reads (raw_view r) is.0) (sym at.is) is.1) (at.side, is.2)))

pub returns-in_ok-keep-in-Content-clause-ok : goal.returns-in_ok-keep-in-Content-clause-ok
returns-in_ok-keep-in-Content-clause-ok g c = λ events holds.
    let at = c.in-Content in
    let is = c.in_ok-read_into-in-Content.ensures.ok events holds.sent in
    let reads = subst (λ (r : Raw). Reads (raw_view r) is.0) (sym at.is) is.1 in
    keeps _ _ events is.0 reads _ _ _ _ _ (c.in_ok-keep-in-Content.ensures.ok events is.0 holds
    (content_sound events at.side at.content.now _ is)
    (c.as_read-read.ensures.read events is.0 holds.sent reads (at.side, is.2)))

pub returns-in-Broken-clause-rule : goal.returns-in-Broken-clause-rule
returns-in-Broken-clause-rule g c =
    let at = c.in-Broken in
    rw at.is (λ events holds. (fault at.side at.rule, refl, refl))

pub returns-in_err-keep-in-Snapshot-clause-rule : goal.returns-in_err-keep-in-Snapshot-clause-rule
returns-in_err-keep-in-Snapshot-clause-rule g c =
    let at = c.in-Snapshot in
    let event = snapshot at.uri.now at.version (chars at.text.now) in
    let from = c.from_residual-in_err-keep-in-Snapshot in
    let p = err_from_is_err_and from.result from.ensures.1 in
    let read = c.as_read-read-in-Snapshot.ensures in
    let reads : Reads (raw_view c.args.raw) event = rw at.is refl in
    rw p.1 (λ events holds.
    rw p.2 (refused_for (raw_view c.args.raw) c.args.self.now.docs.terms events event reads _
    (subst (λ (r : Raw). RefusesEvent (raw_view r) c.args.self.now.docs.terms events event
    c.in_err-keep-in-Snapshot.field-0.0) read.raw
    (c.in_err-keep-in-Snapshot.ensures.rule events event holds tt
    (read.read events event holds.sent reads (shown_silent at.uri.now at.version _))))))

pub returns-in_err-keep-in-Snapshot-clause-err : goal.returns-in_err-keep-in-Snapshot-clause-err
returns-in_err-keep-in-Snapshot-clause-err g c =
    let at = c.in-Snapshot in
    let event = snapshot at.uri.now at.version (chars at.text.now) in
    let from = c.from_residual-in_err-keep-in-Snapshot in
    let p = err_from_is_err_and from.result from.ensures.1 in
    let reads : Reads (raw_view c.args.raw) event = rw at.is refl in
    rw p.1 (λ events holds. c.in_err-keep-in-Snapshot.ensures.err events event holds tt
    (c.as_read-read-in-Snapshot.ensures.read events event holds.sent reads
    (shown_silent at.uri.now at.version _)))

pub returns-in_ok-keep-in-Snapshot-clause-ok : goal.returns-in_ok-keep-in-Snapshot-clause-ok
returns-in_ok-keep-in-Snapshot-clause-ok g c = λ events holds.
    let at = c.in-Snapshot in
    let event = snapshot at.uri.now at.version (chars at.text.now) in
    let reads : Reads (raw_view c.args.raw) event = rw at.is refl in
    keeps _ _ events event reads _ _ _ _ _
    (c.in_ok-keep-in-Snapshot.ensures.ok events event holds tt
    (c.as_read-read-in-Snapshot.ensures.read events event holds.sent reads
    (shown_silent at.uri.now at.version _)))
