use Rattle.std.specs.Prelude.{option_and_then, option_map}
use Rattle.std.proofs.Common.{◌∙◌, ap, refl, subst, sym}
use Rattle.std.proofs.lemmas.Result.{on_ok_weaker}
use Rattle.lsp_trail.specs.Common.{AreCounts, call_view, calls, Fate, HasFate, heard_events}
use Rattle.lsp_trail.specs.Common.{IsNoted, kept_before, place_of, Raw, raw_view}
use Rattle.lsp_docs.specs.declared.call.Took.TheVariants.{Changed}
use Rattle.lsp_replay.specs.Telling.{took_of}
use Rattle.lsp_replay.proofs.Following.{whose_read}
use Rattle.lsp_replay.proofs.Seeing.{events-push}
use Rattle.lsp_notes.specs.Misfits.{call_found}
use Rattle.lsp_notes.proofs.Misfitting.{misfits_kept, misfits_past, none_quiet, quiet_by}
use Rattle.lsp_notes.proofs.Misfitting.{quiet_said, told_call}
use Rattle.lsp_trail.proofs.Trails.{fate_offends}
use Rattle.lsp_notes.proofs.misfits.Misfits.note_kept.Goals as goal

-- it offends
pub returns-in_default : goal.returns-in_default
returns-in_default c = λ terms before h found are seen.
    let own = fate_offends terms before h c.args.seen.now.fate c.in_default.not-Kept seen.fate in
    misfits_past terms before h c.args.self.now found are own.0 own.1

-- it finds nothing
pub returns-in_default-took : goal.returns-in_default-took
returns-in_default-took c = λ terms before h found are seen.
    let m = c.args.self.now in
    let has = subst (λ (f : Fate). HasFate terms before h f) c.in-Kept.is seen.fate in
    let place = place_of (heard_events before) h.note.event in
    misfits_kept terms before h m found are m place _ has.0 refl refl
    (quiet_by m _ (quiet_said terms (calls (kept_before terms before)) place _ c.in-Kept.took has.1
    c.in_default-took.not-Changed))

-- it says nothing of a document
pub returns-in_default-call : goal.returns-in_default-call
returns-in_default-call c = λ terms before h found are seen.
    let m = c.args.self.now in
    let has = subst (λ (f : Fate). HasFate terms before h f) c.in-Kept.is seen.fate in
    let place = place_of (heard_events before) h.note.event in
    misfits_kept terms before h m found are m place _ has.0 refl
    (ap (option_and_then (call_found terms place (calls (kept_before terms before))))
    (sym seen.says ∙ ap (option_map call_view) c.in_default-call.is))
    (quiet_by m _ none_quiet)

pub returns : goal.returns
returns c = on_ok_weaker c.note_call.result (λ noted terms before h found are seen.
    let has = subst (λ (f : Fate). HasFate terms before h f) c.in-Kept.is seen.fate in
    let raw = raw_view c.args.seen.now.raw in
    let call = call_view c.in-Some.call in
    let place = c.last-place.result in
    let own = calls (kept_before terms before) in
    let read = subst (λ (w : Raw). IsNoted w h.note) seen.is seen.noted in
    let at = c.last-place.ensures (heard_events before) h.note.event
    (subst (AreCounts c.args.held.now.counts) (events-push before h) seen.stood.counted)
    (c.who.ensures ∙ sym (whose_read raw h.note.event read.0)) in
    let says = sym seen.says ∙ ap (option_map call_view) c.in-Some.is in
    let told = ap Changed c.by_number.ensures ∙ sym c.in-Changed.is ∙ has.1
    ∙ ap (took_of terms own) says in
    misfits_kept terms before h c.args.self.now found are _ place _ has.0 at
    (ap (option_and_then (call_found terms place own)) says
    ∙ sym (told_call terms own place call c.by_number.result told)) noted) c.note_call.ensures
