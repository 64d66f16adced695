use Rattle.std.proofs.Common.{ℕ, List, ap, ◌∙◌, sym, subst, w32, rules}
use Rattle.std.proofs.lemmas.Int.{to_z-of_z}
use Rattle.std.proofs.lemmas.Result.{err_from_is_err_and}
use mir.Val.{SFits}
use Rattle.lsp_docs.specs.Calls.{Call, changes}
use Rattle.lsp_docs.specs.State.{Refuses, Stands, early_rule, held_in, queue_of}
use Rattle.lsp_docs.specs.Taken.{found_on, took_found}
use Rattle.lsp_docs.specs.Tried.{AreTriedOn, IsTried, tried_in}
use Rattle.lsp_text.specs.Changes.{edits_of}
use Rattle.lsp_types.specs.Fault.{IsRule, Names}
use Rattle.lsp_docs.proofs.SameVersions.{change-due}
use Rattle.lsp_docs.proofs.Stepping.{accepts-changed, held-stands, refuses, stated, terms_in}
use Rattle.lsp_docs.proofs.docs.Docs.change.Goals as goal

pub returns-in_err-change-clause-refuses : goal.returns-in_err-change-clause-refuses
returns-in_err-change-clause-refuses g c =
    let fits : SFits w32 c.args.version = c.ranges.version in
    let was = stated (terms_in c.self.inside.terms.limit c.self.inside.terms.kept
    c.self.inside.terms.line_ends) c.self.inside.documents.held c.self.inside.documents.kept
    c.self.inside.waiting in
    let uri = c.args.uri.now in
    let n = c.args.version in
    let cs = edits_of c.args.changes.now in
    let told = simp to_z-of_z at c.texts-due.ensures in
    let rule = simp to_z-of_z at c.in_err-change.ensures.rule in
    let same = change-due was.terms (queue_of uri was.waits.queues) _ c.args.encoding c.args.kind n
    cs (held_in uri was.documents) told in
    let call = changes c.args.encoding c.args.kind uri n cs in
    let named : Refuses c.args.self.now call c.in_err-change.field-0.0 =
    rw (← c.self.view_is) (refuses was call c.in_err-change.field-0.0
    (subst (λ r. Names r c.in_err-change.field-0.0) same rule)) in
    search rules

pub returns-in_err-change-clause-memory : goal.returns-in_err-change-clause-memory
returns-in_err-change-clause-memory g c = λ refused calls h.
    let fits : SFits w32 c.args.version = c.ranges.version in
    let early = simp to_z-of_z at c.in_err-change.ensures.memory in
    ap (early_rule c.args.kind c.args.version (edits_of c.args.changes.now))
    (sym (held-stands c.args.self.now calls c.args.uri.now h)
    ∙ sym (ap (λ x. held_in c.args.uri.now x.documents) c.self.view_is))
    ∙ early (search rules)

pub returns-in_err-change-clause-tried : goal.returns-in_err-change-clause-tried
returns-in_err-change-clause-tried g c =
    let fits : SFits w32 c.args.version = c.ranges.version in
    let told = simp to_z-of_z at c.in_err-change.ensures.tried in
    let cs = edits_of c.args.changes.now in
    let limit = c.args.self.now.terms.limit in
    let tried : (calls : List Call) → Stands c.args.self.now calls
    → IsRule c.in_err-change.field-0.0 → IsTried c.args.self.now.terms calls
    (changes c.args.encoding c.args.kind c.args.uri.now c.args.version cs)
    (tried_in g.S.TextStore.content c.change.new.tried) =
    λ calls h rule early.
    let same = sym (held-stands c.args.self.now calls c.args.uri.now h)
    ∙ sym (ap (λ x. held_in c.args.uri.now x.documents) c.self.view_is) in
    let made = tried_in g.S.TextStore.content c.change.new.tried in
    let held = held_in c.args.uri.now c.self.inside.documents.held in
    let here = told rule (sym (ap (early_rule c.args.kind c.args.version cs) same) ∙ early) in
    subst (λ o. AreTriedOn limit c.args.encoding o cs made) (sym same)
    (subst (λ (n : ℕ). AreTriedOn n c.args.encoding held cs made)
    (ap (λ x. x.terms.limit) c.self.view_is) here) in
    let p = err_from_is_err_and c.from_residual.result c.from_residual.ensures.1 in
    rw (p.1, p.2) tried

pub returns-clause-accepts : goal.returns-clause-accepts
returns-clause-accepts g c =
    let fits : SFits w32 c.args.version = c.ranges.version in
    let was = stated (terms_in c.self.inside.terms.limit c.self.inside.terms.kept
    c.self.inside.terms.line_ends) c.self.inside.documents.held c.self.inside.documents.kept
    c.self.inside.waiting in
    let uri = c.args.uri.now in
    let n = c.args.version in
    let cs = edits_of c.args.changes.now in
    let told = simp to_z-of_z at c.texts-due.ensures in
    let made = simp to_z-of_z at c.in_ok-change.ensures.accepts in
    let same = change-due was.terms (queue_of uri was.waits.queues) _ c.args.encoding c.args.kind n
    cs (held_in uri was.documents) told in
    let reaches = simp to_z-of_z at c.reach.ensures in
    rw (← c.self.view_is) (accepts-changed was c.args.encoding c.args.kind uri n cs _ _ _
    (sym same ∙ made.accepted) made reaches)

pub returns-clause-took : goal.returns-clause-took
returns-clause-took g c = λ calls h.
    let uri = c.args.uri.now in
    let cs = edits_of c.args.changes.now in
    let held = held_in uri c.self.inside.documents.held in
    let same = sym (held-stands c.args.self.now calls uri h)
    ∙ sym (ap (λ x. held_in uri x.documents) c.self.view_is) in
    c.of.ensures
    ∙ ap took_found (c.in_ok-change.ensures.found
    ∙ ap (λ n. found_on n c.args.encoding held cs) (ap (λ x. x.terms.limit) c.self.view_is)
    ∙ ap (λ o. found_on c.args.self.now.terms.limit c.args.encoding o cs) (sym same))
