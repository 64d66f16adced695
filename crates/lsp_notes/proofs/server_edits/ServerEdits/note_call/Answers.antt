use Rattle.std.specs.Prelude.{length, option_map}
use Rattle.std.proofs.Common.{◌≡◌, ◌∙◌, ap, rules, subst, sym}
use Rattle.std.proofs.lemmas.Result.{on_ok_weaker}
use Rattle.lsp_trail.specs.Common.{AreCounts, call_view, calls, heard_events, IsNoted, IsTrail}
use Rattle.lsp_trail.specs.Common.{kept_of, Raw, raw_view, Stands, Terms}
use Rattle.lsp_replay.proofs.Following.{whose_read}
use Rattle.lsp_replay.proofs.Seeing.{events-push}
use Rattle.lsp_notes.specs.DocumentNotes.{notes_view, with_note}
use Rattle.lsp_notes.specs.LateEdits.{lates_view}
use Rattle.lsp_notes.specs.ServerEdits.{calls_with, last_answers, late_by}
use Rattle.lsp_notes.proofs.ServerNoting.{edits_called, edits_quiet, none_in}
use Rattle.lsp_notes.proofs.server_edits.ServerEdits.note_call.Goals as goal

-- no answer came late
pub returns-then-is_empty : goal.returns-then-is_empty
returns-then-is_empty c = λ terms before h call trail are seen kept says.
    let late = c.args.self.now.late in
    let none : length late.items ≡ 0 =
    search (rules, c.is_empty.ensures, c.if-is_empty.true, late.ok.0) in
    edits_quiet terms before h c.args.self.now call are kept seen.noted.0 says
    (none_in late.items none)

-- it says nothing of a document
pub returns-in_default : goal.returns-in_default
returns-in_default c = λ terms before h call trail are seen kept says.
    absurd (cc (sym says ∙ sym seen.says ∙ ap (option_map call_view) c.in_default.is))

-- one did
pub returns : goal.returns
returns c = on_ok_weaker c.note_change.result (λ noted terms before h own trail are seen kept said.
    let events = heard_events before in
    let event = h.note.event in
    let raw = raw_view c.args.seen.now.raw in
    let call = call_view c.in-Some.call in
    let read = subst (λ (w : Raw). IsNoted w h.note) seen.is seen.noted in
    let place = c.last-place.result in
    let at = c.last-place.ensures events event
    (subst (AreCounts c.args.held.now.counts) (events-push before h) seen.stood.counted)
    (c.who.ensures ∙ sym (whose_read raw event read.0)) in
    let old = c.args.self.now in
    let new = c.note_change.new.self in
    let made = calls_with terms events event in
    let says = sym seen.says ∙ ap (option_map call_view) c.in-Some.is in
    edits_called terms before h old new call (late_by terms events made place call) are kept
    seen.noted.0 says (ap (λ p. late_by terms events made p call) (sym at))
    c.note_change.ensures.asked c.note_change.ensures.late
    (subst (λ (t : Terms). IsTrail t c.args.trail.now events
    → lates_view old.late.items ≡ last_answers t events
    → notes_view new.late_edits.items
    ≡ with_note (notes_view old.late_edits.items) (late_by t events made place call))
    seen.stood.by (noted events made
    (subst (λ es. Stands c.args.held.now.docs (calls (kept_of terms es))) (events-push before h)
    seen.stood.holds.called)) trail are.late_are)
    c.note_change.ensures.others.0 c.note_change.ensures.others.1.0 c.note_change.ensures.others.1.1)
    c.note_change.ensures.late_edits
