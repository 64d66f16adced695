use Rattle.std.specs.Prelude.{option_map}
use Rattle.std.proofs.Common.{◌≡◌, ◌∙◌, ◌++◌, ◌∷◌, [], Some, ap, refl, subst, sym}
use Rattle.std.proofs.lemmas.Result.{on_ok_weaker}
use Rattle.lsp_trail.specs.Common.{AreCounts, AreOpenings, call_view, calls, heard_events, IsNoted}
use Rattle.lsp_trail.specs.Common.{kept_of, Raw, raw_view, Terms}
use Rattle.lsp_replay.proofs.Following.{whose_read}
use Rattle.lsp_replay.proofs.Seeing.{events-push}
use Rattle.lsp_notes.specs.DocumentNotes.{notes_view, with_note}
use Rattle.lsp_trail.proofs.Saving.{calls_after}
use Rattle.lsp_notes.specs.Spellings.{HoldsOthers, spelling_note, unopened_by}
use Rattle.lsp_notes.proofs.OtherSpellings.{called_none, called_one, none_before, unopened_before}
use Rattle.lsp_notes.proofs.spellings.Spellings.note_call.Goals as goal

-- its document is open
pub returns-in_default : goal.returns-in_default
returns-in_default c = λ terms before h trail are seen kept said.
    let call = call_view c.args.call in
    let own = calls (kept_of terms (heard_events before)) in
    let says = sym seen.says ∙ ap (option_map call_view) said in
    let more = calls_after terms before h (Some call) kept says in
    called_none terms before h c.args.self.now are kept call says _ refl
    (none_before terms own call
    (sym (c.in_default.ensures _ seen.stood.holds.called
    ∙ (λ i. unopened_by (seen.stood.by i) (more i) call))))

pub returns : goal.returns
returns c = on_ok_weaker c.note.result (λ noted terms before h trail are seen kept said.
    let call = call_view c.args.call in
    let uri = c.in-Some.uri.now in
    let events = heard_events before in
    let made = calls (kept_of terms (heard_events (before ++ h ∷ []))) in
    let raw = raw_view c.args.seen.now.raw in
    let read = subst (λ (w : Raw). IsNoted w h.note) seen.is seen.noted in
    let place = c.last-place.result in
    let at = c.last-place.ensures events h.note.event
    (subst (AreCounts c.args.held.now.counts) (events-push before h) seen.stood.counted)
    (c.who.ensures ∙ sym (whose_read raw h.note.event read.0)) in
    let says = sym seen.says ∙ ap (option_map call_view) said in
    let more = calls_after terms before h (Some call) kept says in
    let own = unopened_before terms (calls (kept_of terms events)) call uri
    (sym (c.in-Some.ensures _ seen.stood.holds.called
    ∙ (λ i. unopened_by (seen.stood.by i) (more i) call))) in
    called_one terms before h c.args.self.now are kept call says _ place uri at own.is
    (subst (λ (t : Terms). AreOpenings t c.args.trail.now.openings events
    → HoldsOthers t uri (calls (kept_of t events)) made
    → notes_view c.note.new.self.named.items
    ≡ with_note (notes_view c.args.self.now.named.items) (spelling_note t events place uri))
    seen.stood.by (noted events made seen.stood.holds.called) trail.opened
    (subst (HoldsOthers terms uri (calls (kept_of terms events))) (sym more) own.others)))
    c.note.ensures
