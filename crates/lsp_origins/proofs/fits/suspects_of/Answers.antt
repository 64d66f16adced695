use Rattle.std.specs.Prelude.{MatchOption}
use Rattle.std.proofs.Common.{◌≡◌, ◌++◌, ◌∷◌, ◌∙◌, List, [], true, ap, rules, subst, sym, w32}
use Rattle.std.proofs.lemmas.Int.{to_z-of_z}
use mir.Val.{SFits}
use Rattle.lsp_trail.specs.Common.{are_few, call_view, edits_of, sent_edits, SentEdits, sents_view}
use Rattle.lsp_docs.specs.declared.call.Call as code
use Rattle.lsp_trail.specs.Bases.{sent_in}
use Rattle.lsp_origins.specs.Fits.{AreNamed, AreSuspects, reached, suspects_in}
use Rattle.lsp_origins.proofs.Fitting.{own_none, reached_view, suspects_alone}
use Rattle.lsp_origins.proofs.fits.suspects_of.Goals as goal

-- with those of the call
pub returns-in-Changes : goal.returns-in-Changes
returns-in-Changes c = λ few.
    let until = c.args.until in
    let sent = sent_in c.args.base.now in
    let own = sent_edits c.in-Changes.version (edits_of c.in-Changes.changes.now) in
    let named = c.with_own.result in
    let fits : SFits w32 c.in-Changes.version = search rules in
    let own_named = simp to_z-of_z at c.with_own.ensures in
    let held : sents_view c.up_to-sent.result.now ≡ reached until sent =
    ap sents_view c.up_to-sent.ensures ∙ reached_view until c.as_slice.result.now
    ∙ ap (λ items. reached until (sents_view items)) c.as_slice.ensures.value in
    let are = subst (λ (l : List SentEdits). AreNamed (are_few (sent ++ own ∷ []))
    (l ++ own ∷ []) named) held own_named in
    subst (λ (call : code.Call). MatchOption named (suspects_in until sent (call_view call) ≡ [])
    (AreSuspects (suspects_in until sent (call_view call)))) (sym c.in-Changes.is) are.is

-- without
pub returns-in_default : goal.returns-in_default
returns-in_default c = λ few.
    let until = c.args.until in
    let sent = sent_in c.args.base.now in
    let held : sents_view c.up_to-sent.result.now ≡ reached until sent =
    ap sents_view c.up_to-sent.ensures ∙ reached_view until c.as_slice.result.now
    ∙ ap (λ items. reached until (sents_view items)) c.as_slice.ensures.value in
    suspects_alone until sent (call_view c.args.call) c.without_own.result
    (own_none c.args.call c.in_default.not-Changes) few
    (subst (λ (l : List SentEdits). AreNamed true l c.without_own.result) held
    c.without_own.ensures)
