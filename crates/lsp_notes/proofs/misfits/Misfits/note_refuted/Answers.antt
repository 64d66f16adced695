use Rattle.std.specs.Prelude.{option_and_then, option_map}
use Rattle.std.proofs.Common.{◌≡◌, ◌≤◌, ◌∙◌, Some, ap, lit≤, subst, sym}
use Rattle.std.proofs.lemmas.Result.{on_ok_weaker}
use Rattle.lsp_trail.specs.Common.{AreCounts, call_rule, call_view, calls, heard_events, Holds}
use Rattle.lsp_trail.specs.Common.{IsNoted, kept_before, kept_of, place_of, Raw, raw_view, Terms}
use Rattle.lsp_replay.proofs.Following.{whose_read}
use Rattle.lsp_replay.proofs.Seeing.{events-push}
use Rattle.lsp_verdict.proofs.Offences.Steps.{kept-refused}
use Rattle.lsp_notes.specs.Misfits.{call_found, findings_of, finds}
use Rattle.lsp_notes.proofs.Misfitting.{misfits_refuted}
use Rattle.lsp_facts.proofs.CallBreaks.{call_breaks}
use Rattle.lsp_notes.proofs.misfits.Misfits.note_refuted.Goals as goal

pub returns : goal.returns
returns c = on_ok_weaker c.note_call.result (λ noted terms before h found are seen offends.
    let events = heard_events before in
    let event = h.note.event in
    let kept = kept_before terms before in
    let own = calls kept in
    let call = call_view c.in-Some.call in
    let place = c.last-place.result in
    let rule_is : c.args.rule ≡ 702 = c.if-rule-ne-SNAPSHOT_DIFFERS.false in
    let read = subst (λ (w : Raw). IsNoted w h.note) seen.is seen.noted in
    let at = c.last-place.ensures events event
    (subst (AreCounts c.args.held.now.counts) (events-push before h) seen.stood.counted)
    (c.who.ensures ∙ sym (whose_read (raw_view c.args.seen.now.raw) event read.0)) in
    let says = sym seen.says ∙ ap (option_map call_view) c.in-Some.is in
    let holds = subst (Holds c.args.held.now.session c.args.held.now.docs)
    (ap (kept_of terms) (events-push before h)
    ∙ kept-refused terms events event c.args.rule offends) seen.stood.holds in
    let least : 601 ≤ 702 = lit≤ tt in
    let breaks = call_breaks terms kept event call 702 least (offends ∙ ap Some rule_is) says in
    let finds_it = c.in_ok-found.ensures own holds.called
    (ap (λ (t : Terms). call_rule t own call) seen.stood.by ∙ breaks)
    ∙ ap (λ (t : Terms). findings_of t own call) seen.stood.by in
    misfits_refuted terms before h c.args.self.now found are _ (finds place call c.in_ok-found.found)
    c.args.rule rule_is
    (ap (option_and_then (call_found terms (place_of events event) own)) says
    ∙ ap (λ p. finds p call (findings_of terms own call)) (sym at)
    ∙ ap (finds place call) (sym finds_it)) noted) c.note_call.ensures
