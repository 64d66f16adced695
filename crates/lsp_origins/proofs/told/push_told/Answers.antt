use Rattle.std.specs.Prelude.{option_map, unwrap_or}
use Rattle.std.specs.Str.{chars}
use Rattle.std.proofs.Common.{◌++◌, ◌∙◌, Some, ap, rules, subst, sym, w32}
use Rattle.std.proofs.lemmas.Int.{to_z-of_z}
use Rattle.std.proofs.lemmas.Result.{on_ok_weaker}
use mir.Val.{SFits}
use Rattle.lsp_trail.specs.Common.{agreed_encoding, call_view, calls, held, if_later, kept, kept_of}
use Rattle.lsp_trail.specs.Common.{recent, sent_in, steps, terms_in, uri_of, Utf16}
use Rattle.lsp_docs.specs.Snapshots.{past}
use Rattle.lsp_docs.proofs.Past.{nothing-past}
use Rattle.lsp_facts.specs.TwoTexts.{texts_of}
use Rattle.lsp_trail.specs.Bases.{HoldsAfter, base_at, held_of, sent_since}
use Rattle.lsp_origins.specs.Fits.{suspected, suspects_in, suspects_view}
use Rattle.lsp_trail.specs.Marking.{agreed}
use Rattle.lsp_origins.specs.Told.{setters_until, told, told_of}
use Rattle.lsp_trail.specs.Uncompared.{uncompared, uncompared_in}
use Rattle.lsp_origins.proofs.ToldFacts.{known, no_text_told, none_differ, none_told, nothing_told}
use Rattle.lsp_origins.proofs.ToldFacts.{some_told, untold}
use Rattle.lsp_origins.proofs.told.push_told.Goals as goal

-- nothing is held of the document
pub returns-in_default : goal.returns-in_default
returns-in_default c = λ before stands breaks tried.
    let terms = terms_in c.args.past in
    let call = call_view c.args.call in
    let uri = uri_of call in
    let made = calls (kept_of terms before) in
    let done = steps terms uri before in
    let equal = agreed done in
    let setters = setters_until c.args.until (recent done) in
    let shown = uncompared terms before uri in
    let nothing = c.in_default.ensures
    ∙ ap (held_of c.args.past.trail.now.bases.map.entries) c.uri.ensures in
    untold c.args.facts.now terms before c.args.rule c.args.until call
    (nothing_told terms equal (past terms uri made) (kept terms uri made) (sent_since uri made)
    (agreed_encoding (kept_of terms before)) c.args.until setters shown call (held terms uri made)
    (texts_of terms made call c.args.rule) (nothing-past terms uri made)
    (subst (HoldsAfter terms uri made equal) (sym nothing) (stands.trail.based uri)))

-- no text is held
pub returns-in_default-text : goal.returns-in_default-text
returns-in_default-text c = λ before stands breaks tried.
    let terms = terms_in c.args.past in
    let call = call_view c.args.call in
    let uri = uri_of call in
    let made = calls (kept_of terms before) in
    let done = steps terms uri before in
    let equal = agreed done in
    let setters = setters_until c.args.until (recent done) in
    let shown = uncompared terms before uri in
    let base = c.in-Some.base.now in
    let is = c.in-Some.ensures
    ∙ ap (held_of c.args.past.trail.now.bases.map.entries) c.uri.ensures in
    untold c.args.facts.now terms before c.args.rule c.args.until call
    (no_text_told terms equal (past terms uri made) (kept terms uri made) (sent_since uri made)
    (agreed_encoding (kept_of terms before)) c.args.until setters shown call (held terms uri made)
    base (texts_of terms made call c.args.rule)
    (ap (option_map (λ t. t.content)) c.in_default-text.is)
    (subst (HoldsAfter terms uri made equal) (sym is) (stands.trail.based uri)))

-- there are no suspects, or too many
pub returns-in_default-suspects_of : goal.returns-in_default-suspects_of
returns-in_default-suspects_of c = λ before stands breaks tried.
    let terms = terms_in c.args.past in
    let call = call_view c.args.call in
    let uri = uri_of call in
    let made = calls (kept_of terms before) in
    let done = steps terms uri before in
    let equal = agreed done in
    let setters = setters_until c.args.until (recent done) in
    let shown = uncompared terms before uri in
    let sent = sent_since uri made in
    let limit = c.args.until in
    let texts = texts_of terms made call c.args.rule in
    let is = c.in-Some.ensures
    ∙ ap (held_of c.args.past.trail.now.bases.map.entries) c.uri.ensures in
    let k = known terms equal (past terms uri made) (kept terms uri made) sent
    (held terms uri made) c.in-Some.base.now c.in-Some-text.text.content
    (ap (option_map (λ t. t.content)) c.in-Some-text.is)
    (subst (HoldsAfter terms uri made equal) (sym is) (stands.trail.based uri)) in
    let enc = agreed_encoding (kept_of terms before) in
    untold c.args.facts.now terms before c.args.rule limit call
    (ap (λ o. told_of terms enc limit setters shown sent call o texts) k.is
    ∙ none_told terms enc limit setters shown sent call k.base texts
    (ap (λ l. suspects_in limit l call) (sym k.all) ∙ c.in_default-suspects_of.ensures k.few))

-- there are no two texts
pub returns-in_default-texts_of : goal.returns-in_default-texts_of
returns-in_default-texts_of c = λ before stands breaks tried.
    let terms = terms_in c.args.past in
    let call = call_view c.args.call in
    let uri = uri_of call in
    let made = calls (kept_of terms before) in
    let sent = sent_since uri made in
    let setters = setters_until c.args.until (recent (steps terms uri before)) in
    let shown = uncompared terms before uri in
    let enc = agreed_encoding (kept_of terms before) in
    let base = base_at terms before uri in
    untold c.args.facts.now terms before c.args.rule c.args.until call
    (ap (told_of terms enc c.args.until setters shown sent call base)
    (sym (c.in_default-texts_of.ensures made stands.holds.called (λ is. breaks) (λ is. tried)))
    ∙ none_differ terms enc c.args.until setters shown sent call base)

pub returns : goal.returns
returns c =
    let since = c.in-Some.base.now.since in
    let fits : SFits w32 since = search rules in
    let shown_in = uncompared_in c.args.past.trail.now.uncompared.map.entries in
    on_ok_weaker c.push_tried.result (λ said before stands breaks tried.
    let old = c.args.facts.now in
    let terms = terms_in c.args.past in
    let call = call_view c.args.call in
    let uri = uri_of call in
    let kept_events = kept_of terms before in
    let made = calls kept_events in
    let done = steps terms uri before in
    let equal = agreed done in
    let sent = sent_since uri made in
    let limit = c.args.until in
    let setters = setters_until limit (recent done) in
    let shown = uncompared terms before uri in
    let is = c.in-Some.ensures
    ∙ ap (held_of c.args.past.trail.now.bases.map.entries) c.uri.ensures in
    let k = known terms equal (past terms uri made) (kept terms uri made) sent
    (held terms uri made) c.in-Some.base.now c.in-Some-text.text.content
    (ap (option_map (λ t. t.content)) c.in-Some-text.is)
    (subst (HoldsAfter terms uri made equal) (sym is) (stands.trail.based uri)) in
    let enc = agreed_encoding kept_events in
    let other = chars c.in-Some-texts_of.texts.in_editor.now in
    let suspects = c.in-Some-suspects_of.ensures k.few in
    let all = ap (λ l. suspects_in limit l call) k.all in
    let edits = suspected k.base limit sent call in
    let same_enc = c.unwrap_or.ensures
    ∙ ap (λ o. unwrap_or o Utf16) (c.encoding.ensures (sent_in kept_events) stands.holds.sent) in
    let same_edits = ap suspects_view c.as_slice.ensures.value ∙ c.in_ok-suspects.ensures
    ∙ suspects.are ∙ all in
    let same_setters = c.as_slice-2.ensures.value
    ∙ c.in_ok-setters.ensures terms before stands.trail.marked
    ∙ ap (λ u. setters_until limit (recent (steps terms u before))) c.uri-2.ensures in
    let later = if_later k.base.number shown in
    let same_shown = c.later-shown.ensures
    ∙ ap (λ n. if_later n (shown_in c.uri-3.result.now)) (to_z-of_z w32 since fits)
    ∙ (λ i. if_later (k.since i) (shown_in (c.uri-3.ensures i)))
    ∙ ap (if_later k.base.number) (stands.trail.shown uri) in
    said
    ∙ (λ i. old ++ told terms (same_enc i) (k.text i) (same_setters i) (same_shown i) (same_edits i)
    other)
    ∙ ap (λ more. old ++ more) (sym (some_told terms enc k.base.text other setters later edits
    (λ none. suspects.some (all ∙ none))))
    ∙ ap (λ o. old ++ told_of terms enc limit setters shown sent call (Some k.base) o)
    (c.in-Some-texts_of.ensures made stands.holds.called (λ is. breaks) (λ is. tried))
    ∙ ap (λ o. old ++ told_of terms enc limit setters shown sent call o
    (texts_of terms made call c.args.rule)) (sym k.is)) c.push_tried.ensures
