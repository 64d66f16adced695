use Rattle.std.specs.Prelude.{Bool}
use Rattle.std.proofs.Common.{rules, subst, true, w32}
use Rattle.std.proofs.lemmas.Int.{to_z-of_z}
use Rattle.std.proofs.lemmas.Result.{on_ok_weaker}
use mir.Val.{SFits}
use Rattle.lsp_docs.specs.Snapshots.{kept}
use Rattle.lsp_text.specs.Changes.{edits_of}
use Rattle.lsp_trail.specs.Bases.{AddedAt, ChangesOne}
use Rattle.lsp_trail.specs.SentEdits.{SentEdits, sent_edits}
use Rattle.lsp_trail.proofs.BasesHeld.{added_closed, added_there, none_added, sends_none, sends_own}
use Rattle.lsp_trail.proofs.bases.add_call.Goals as goal

-- the call changes nothing
pub returns-in_default : goal.returns-in_default
returns-in_default c = λ after more stands is.
    absurd (sends_none _ c.args.call more c.in_default.not-Changes is)

-- nothing is held of its document
pub returns-in_default-find : goal.returns-in_default-find
returns-in_default-find c = rw c.in-Changes.is (λ after more stands is.
    none_added c.in-Changes.uri.now more
    (kept c.args.docs.now.terms c.in-Changes.uri.now after) c.args.map.now.entries
    c.in_default-find.ensures.none)

-- the text stays, or was not held before
pub returns-then-not-branch : goal.returns-then-not-branch
returns-then-not-branch c = rw c.in-Changes.is (λ after more stands is.
    let fits : SFits w32 c.in-Changes.version = search rules in
    let added = simp to_z-of_z at c.in_ok-add_at.ensures in
    let uri = c.in-Changes.uri.now in
    let lost = c.in_ok-add_at.field-0 in
    let old = c.args.map.now.entries in
    let new = c.add_at.new.map.entries in
    added_there uri more (kept c.args.docs.now.terms uri after) lost old new
    (subst (λ (m : SentEdits). ChangesOne uri (AddedAt m lost) old new)
    (sends_own uri c.in-Changes.encoding c.in-Changes.kind c.in-Changes.version
    (edits_of c.in-Changes.changes.now) more is) added))

-- it is no longer held
pub returns : goal.returns
returns c = on_ok_weaker c.close_unless_kept.result (λ closed. rw c.in-Changes.is
    (λ after more stands is.
    let fits : SFits w32 c.in-Changes.version = search rules in
    let added = simp to_z-of_z at c.in_ok-add_at.ensures in
    let uri = c.in-Changes.uri.now in
    let old = c.args.map.now.entries in
    let mid = c.add_at.new.map.entries in
    let own = sends_own uri c.in-Changes.encoding c.in-Changes.kind c.in-Changes.version
    (edits_of c.in-Changes.changes.now) more is in
    added_closed uri more (kept c.args.docs.now.terms uri after) old mid
    c.close_unless_kept.new.map.entries
    (subst (λ (m : SentEdits). ChangesOne uri (AddedAt m true) old mid) own
    (subst (λ (b : Bool). ChangesOne uri (AddedAt (sent_edits c.in-Changes.version
    (edits_of c.in-Changes.changes.now)) b) old mid) c.if-not-branch.false added))
    (closed after stands))) c.close_unless_kept.ensures
