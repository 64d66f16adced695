use Rattle.std.specs.Prelude.{option_map}
use Rattle.std.proofs.Common.{◌∙◌, [], Option, Some, ap, refl, subst, sym}
use Rattle.std.proofs.lemmas.Result.{on_ok_weaker}
use Rattle.lsp_replay.specs.Common.{AreCounts, call_view, calls, HasFate, heard_events, IsNoted}
use Rattle.lsp_replay.specs.Common.{kept_before, uri_of}
use Rattle.lsp_replay.specs.Telling.{took_of}
use Rattle.lsp_replay.specs.declared.seen.Fate.{Fate}
use Rattle.lsp_replay.proofs.Following.{whose_read}
use Rattle.lsp_replay.proofs.Seeing.{events-push}
use Rattle.lsp_session.proofs.Steps.{option_or-none}
use Rattle.lsp_verdict.specs.Given.{raw_view}
use Rattle.lsp_verdict.specs.Placed.{Raw}
use Rattle.std.specs.List.{cons_option}
use Rattle.std.specs.Option.{option_or}
use Rattle.lsp_trail.specs.History.{kept_call, on_document}
use Rattle.lsp_trail.specs.Marking.{finds_equal, marked_in}
use Rattle.lsp_trail.specs.Openings.{Holds}
use Rattle.lsp_trail.specs.Renames.{moves_view, renamed_held}
use Rattle.lsp_trail.specs.Saves.{most_saves, unopened_save}
use Rattle.lsp_trail.specs.Trails.{Keeps}
use Rattle.lsp_trail.specs.declared.step.Step.{Step}
use Rattle.lsp_trail.proofs.RenameSteps.{no_edit}
use Rattle.lsp_trail.proofs.Trails.{based_called, based_same, fate_offends, none_kept}
use Rattle.lsp_trail.proofs.Trails.{trail_called, trail_past}
use Rattle.lsp_trail.proofs.trail.Trail.keep.Goals as goal
use Rattle.lsp_trail.proofs.Saving.{calls_after, save_same}

-- it offends
pub returns-in_default : goal.returns-in_default
returns-in_default c = λ terms before h is seen.
    let own = fate_offends terms before h c.args.seen.now.fate c.in_default.not-Kept seen.fate in
    trail_past terms before h _ is own.0 own.1

-- it says nothing of a document
pub returns-in_default-call : goal.returns-in_default-call
returns-in_default-call c = on_ok_weaker c.keep_message.result (λ told terms before h is seen.
    let noted = subst (λ (w : Raw). IsNoted w h.note) seen.is seen.noted in
    told terms before h is seen.stood
    (subst (λ (f : Fate). HasFate terms before h f) c.in-Kept.is seen.fate).0 noted seen.spoken
    (sym seen.says ∙ ap (option_map call_view) c.in_default-call.is)) c.keep_message.ensures

-- it leaves its document as it is
pub returns-in_default-step_of : goal.returns-in_default-step_of
returns-in_default-step_of c = λ terms before h is seen.
    let old = c.args.self.now in
    let events = heard_events before in
    let raw = raw_view c.args.seen.now.raw in
    let call = call_view c.in-Some.call in
    let took = c.in-Kept.took in
    let place = c.last-place.result in
    let moved = moves_view old.said.renames.moves.items in
    let noted = subst (λ (w : Raw). IsNoted w h.note) seen.is seen.noted in
    let at = c.last-place.ensures events h.note.event
    (subst (AreCounts c.args.held.now.counts) (events-push before h) seen.stood.counted)
    (c.who.ensures ∙ sym (whose_read raw h.note.event noted.0)) in
    let has = subst (λ (f : Fate). HasFate terms before h f) c.in-Kept.is seen.fate in
    let says = sym seen.says ∙ ap (option_map call_view) c.in-Some.is in
    let told = has.1 ∙ ap (took_of terms (calls (kept_before terms before))) says in
    trail_called terms before h old is _ has.0 place at call took old.said.renames seen.noted.0
    says told
    (subst (λ (o : Option Step). Keeps (option_map (kept_call (uri_of call) place) o) old.marks
    old.openings old.marks old.openings) c.in_default-step_of.ensures
    (none_kept old.marks old.openings))
    (based_same terms before h old is old has.0 place at call took told
    c.in_default-step_of.ensures)
    c.in_ok-keep.ensures
    (subst (λ o. Holds most_saves (cons_option o []) old.saves.saved.items
    c.keep-2.new.self.saved.items)
    (ap (option_map (λ uri. on_document uri place))
    ((λ i. unopened_save (seen.stood.by i) (calls_after terms before h (Some call) has.0 says i)
    call) ∙ save_same terms (calls (kept_before terms before)) call))
    (c.in_ok-keep-2.ensures _ seen.stood.holds.called)) c.in_ok-keep-3.ensures refl refl
    (sym (ap (option_or (renamed_held old.said.renames))
    (no_edit call took place moved (sym c.in_default-step_of.ensures))
    ∙ option_or-none (renamed_held old.said.renames)))

-- it does something to one
pub returns : goal.returns
returns c = on_ok_weaker c.keep-4.result (λ texts terms before h is seen.
    let old = c.args.self.now in
    let new = c.keep_step.new in
    let raw = raw_view c.args.seen.now.raw in
    let call = call_view c.in-Some.call in
    let step = c.in-Some-step_of.step in
    let place = c.last-place.result in
    let noted = subst (λ (w : Raw). IsNoted w h.note) seen.is seen.noted in
    let at = c.last-place.ensures (heard_events before) h.note.event
    (subst (AreCounts c.args.held.now.counts) (events-push before h) seen.stood.counted)
    (c.who.ensures ∙ sym (whose_read raw h.note.event noted.0)) in
    let has = subst (λ (f : Fate). HasFate terms before h f) c.in-Kept.is seen.fate in
    let says = sym seen.says ∙ ap (option_map call_view) c.in-Some.is in
    let told = has.1 ∙ ap (took_of terms (calls (kept_before terms before))) says in
    let done = c.in_ok-is_equal.ensures in
    trail_called terms before h _ is _ has.0 _ at call c.in-Kept.took c.keep_call.new.self
    seen.noted.0 says told
    (subst (λ more. Keeps more old.marks old.openings new.marks new.openings)
    (ap (λ u. Some (kept_call u place step)) c.uri.ensures
    ∙ ap (option_map (kept_call (uri_of call) place)) c.in-Some-step_of.ensures) done.kept)
    (based_called terms before h _ is (record old { bases = c.keep-4.new.self }) has.0 _ at
    c.args.held.now.session c.args.held.now.docs c.args.held.now.counts call c.in-Kept.took step
    c.in_ok-is_equal.is_equal seen.stood says told c.in-Some-step_of.ensures
    (done.equal ∙ ap (λ u. finds_equal step (marked_in old.marks.map.entries u)) c.uri.ensures)
    texts)
    c.in_ok-keep.ensures
    (subst (λ o. Holds most_saves (cons_option o []) old.saves.saved.items
    c.keep-2.new.self.saved.items)
    (ap (option_map (λ uri. on_document uri place))
    ((λ i. unopened_save (seen.stood.by i) (calls_after terms before h (Some call) has.0 says i)
    call) ∙ save_same terms (calls (kept_before terms before)) call))
    (c.in_ok-keep-2.ensures _ seen.stood.holds.called)) c.in_ok-keep-3.ensures
    refl c.keep_call.ensures.moves c.in_ok-keep_call.ensures.renamed) c.keep-4.ensures
