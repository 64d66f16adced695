use Rattle.std.specs.Prelude.{option_map}
use Rattle.std.specs.List.{cons_option}
use Rattle.std.proofs.Common.{◌≡◌, ◌∙◌, [], ap, refl, subst, sym}
use Rattle.lsp_trail.specs.Common.{edits_of, place_of}
use Rattle.lsp_notes.specs.DocumentNotes.{notes_view, with_note}
use Rattle.lsp_notes.specs.LateEdits.{HoldsLate}
use Rattle.lsp_notes.specs.ServerEdits.{edited_view, late_in, note_on, outside_in}
use Rattle.lsp_notes.specs.ServerEdits.{overlap_in, sight, unsent_note}
use Rattle.lsp_notes.specs.TextsSince.{contents}
use Rattle.lsp_notes.proofs.ServerNoting.{in_sight, no_edits, no_texts, notes_seen, notes_unseen}
use Rattle.lsp_notes.proofs.server_edits.ServerEdits.note_edited.Goals as goal

-- it has no edits
pub returns-in_default : goal.returns-in_default
returns-in_default c = λ terms before event now.
    let e = edited_view c.args.edited.now in
    notes_unseen terms before event e c.args.self.now _ refl refl
    (c.in_ok-note_unsent.ensures terms before event now
    ∙ ap (λ p. with_note (notes_view c.args.self.now.unsent.items) (unsent_note terms before event p e))
    now.place)
    (no_edits terms before event e (ap (option_map (λ v. edits_of v.items)) c.in_default.is))
    refl refl refl

-- its texts are not known
pub returns-in_default-2 : goal.returns-in_default-2
returns-in_default-2 c = λ terms before event now.
    let e = edited_view c.args.edited.now in
    notes_unseen terms before event e c.args.self.now _ refl refl
    (c.in_ok-note_unsent.ensures terms before event now
    ∙ ap (λ p. with_note (notes_view c.args.self.now.unsent.items) (unsent_note terms before event p e))
    now.place)
    (no_texts terms before event e
    (sym (c.in_ok-texts.ensures terms before event now)
    ∙ ap (option_map (λ ts. contents ts.items)) c.in_default-2.is))
    refl refl refl

pub returns : goal.returns
returns c = λ terms before event now.
    let e = edited_view c.args.edited.now in
    let old = c.args.self.now in
    let new = c.note_sight.new.self in
    let there = place_of before event in
    let texts = contents c.in-Some-2.texts.items in
    let edits = edits_of c.in-Some.edits.items in
    let seen = c.in_ok-note_sight.ensures in
    let here : sight (contents c.as_slice.result.now) (edits_of c.as_slice-2.result.now)
    ≡ sight texts edits =
    λ i. sight (contents (c.as_slice.ensures.value i)) (edits_of (c.as_slice-2.ensures.value i)) in
    notes_seen terms before event e old new seen.asked seen.late_edits
    (ap (λ v. notes_view v.items) seen.unsent
    ∙ c.in_ok-note_unsent.ensures terms before event now
    ∙ ap (λ p. with_note (notes_view old.unsent.items) (unsent_note terms before event p e))
    now.place) (sight texts edits)
    (in_sight terms before event e edits texts
    (ap (option_map (λ v. edits_of v.items)) c.in-Some.is)
    (sym (c.in_ok-texts.ensures terms before event now)
    ∙ ap (option_map (λ ts. contents ts.items)) c.in-Some-2.is))
    (subst (λ s. HoldsLate (cons_option (late_in e there s) []) old.late.items new.late.items) here
    (subst (λ p. HoldsLate (cons_option (late_in e p (sight (contents c.as_slice.result.now)
    (edits_of c.as_slice-2.result.now))) []) old.late.items new.late.items) now.place seen.late))
    (seen.outside ∙ (λ i. with_note (notes_view old.outside.items)
    (option_map (note_on e (now.place i)) (outside_in (now.encoding i) (here i)))))
    (seen.overlaps ∙ (λ i. with_note (notes_view old.overlaps.items)
    (option_map (note_on e (now.place i)) (overlap_in (now.encoding i) (here i)))))
