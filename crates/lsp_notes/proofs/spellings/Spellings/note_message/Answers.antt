use Rattle.std.specs.Prelude.{option_and_then, option_map}
use Rattle.std.proofs.Common.{◌≡◌, ◌∙◌, ◌++◌, ◌∷◌, [], None, ap, append-nil, refl, subst, sym}
use Rattle.std.proofs.lemmas.Result.{on_ok_weaker}
use Rattle.lsp_trail.specs.Common.{AreCounts, AreOpenings, calls, heard_events, if_unopened}
use Rattle.lsp_trail.specs.Common.{kept_of, raw_view, Terms, version_view, Versioned}
use Rattle.lsp_replay.proofs.Following.{whose_read}
use Rattle.lsp_replay.proofs.Seeing.{events-push}
use Rattle.lsp_notes.specs.DocumentNotes.{notes_view, with_note}
use Rattle.lsp_trail.proofs.Saving.{calls_after}
use Rattle.lsp_notes.specs.Spellings.{HoldsOthers, spelling_note}
use Rattle.lsp_notes.proofs.OtherSpellings.{named_none, named_one, others_stay}
use Rattle.lsp_notes.proofs.spellings.Spellings.note_message.Goals as goal

-- it names no document
pub returns-in_default : goal.returns-in_default
returns-in_default c = λ terms before h trail are named stood kept noted says.
    let own = calls (kept_of terms (heard_events before)) in
    named_none terms before h c.args.self.now are kept says _ named _ refl
    (ap (λ o. option_and_then (if_unopened terms own)
    (option_map (λ (v : Versioned). v.uri) (option_map version_view o))) c.in_default.is)

-- it is open
pub returns-in_default-if_unopened : goal.returns-in_default-if_unopened
returns-in_default-if_unopened c = λ terms before h trail are named stood kept noted says.
    let own = calls (kept_of terms (heard_events before)) in
    let stay = calls_after terms before h None kept says ∙ append-nil own in
    named_none terms before h c.args.self.now are kept says _ named _ refl
    (ap (λ o. option_and_then (if_unopened terms own)
    (option_map (λ (v : Versioned). v.uri) (option_map version_view o))) c.in-Some.is
    ∙ (λ i. if_unopened ((sym stood.by) i) ((sym stay) i) ((sym c.as_str.ensures.value) i))
    ∙ sym (c.in_default-if_unopened.ensures _ stood.holds.called))

pub returns : goal.returns
returns c = on_ok_weaker c.note.result (λ one terms before h trail are named stood kept noted says.
    let events = heard_events before in
    let made = calls (kept_of terms (heard_events (before ++ h ∷ []))) in
    let own = calls (kept_of terms events) in
    let uri = c.in-Some-if_unopened.unopened.now in
    let place = c.last-place.result in
    let at = c.last-place.ensures events h.note.event
    (subst (AreCounts c.args.held.now.counts) (events-push before h) stood.counted)
    (c.who.ensures ∙ sym (whose_read (raw_view c.args.raw) h.note.event noted.0)) in
    let stay = calls_after terms before h None kept says ∙ append-nil own in
    let others = others_stay terms uri own made stay in
    named_one terms before h c.args.self.now are kept says _ named _ place uri at
    (ap (λ o. option_and_then (if_unopened terms own)
    (option_map (λ (v : Versioned). v.uri) (option_map version_view o))) c.in-Some.is
    ∙ (λ i. if_unopened ((sym stood.by) i) ((sym stay) i) ((sym c.as_str.ensures.value) i))
    ∙ sym (c.in-Some-if_unopened.ensures _ stood.holds.called))
    (subst (λ (t : Terms). AreOpenings t c.args.trail.now.openings events
    → HoldsOthers t uri (calls (kept_of t events)) made
    → notes_view c.note.new.self.named.items
    ≡ with_note (notes_view c.args.self.now.named.items) (spelling_note t events place uri))
    stood.by (one events made stood.holds.called) trail.opened others))
    c.note.ensures
