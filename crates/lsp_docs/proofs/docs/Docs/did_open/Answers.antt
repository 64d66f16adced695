use Rattle.std.proofs.Common.{◌≡◌, None, ap, ◌∙◌, sym, subst, ◌++◌, ◌∷◌, [], w32}
use Rattle.std.specs.Str.{chars}
use Rattle.std.proofs.lemmas.Int.{to_z-of_z}
use mir.Val.{SFits}
use Rattle.lsp_docs.specs.Calls.{opens}
use Rattle.lsp_docs.specs.Documents.{versioned}
use Rattle.lsp_docs.specs.State.{rule_at}
use Rattle.lsp_docs.proofs.Stepping.{accepts-opened, allows, breaks, stated, terms_in}
use Rattle.lsp_docs.proofs.docs.Docs.did_open.Goals as goal

pub returns-in-Some-clause-refuses : goal.returns-in-Some-clause-refuses
returns-in-Some-clause-refuses g c =
    let fits : SFits w32 c.args.version = c.ranges.version in
    let asked = simp to_z-of_z at c.open_rule.ensures in
    breaks c.args.self.now (opens c.args.uri.now c.args.version (chars c.args.text.now)) _
    (sym asked ∙ c.in-Some.is)

pub returns-in_err-store-clause-memory : goal.returns-in_err-store-clause-memory
returns-in_err-store-clause-memory g c = λ refused.
    let fits : SFits w32 c.args.version = c.ranges.version in
    let asked = simp to_z-of_z at c.open_rule.ensures in
    allows c.args.self.now (opens c.args.uri.now c.args.version (chars c.args.text.now))
    (sym asked ∙ c.in_default.is)

pub returns-in_err-insert-clause-memory : goal.returns-in_err-insert-clause-memory
returns-in_err-insert-clause-memory g c = λ refused.
    let fits : SFits w32 c.args.version = c.ranges.version in
    let asked = simp to_z-of_z at c.open_rule.ensures in
    allows c.args.self.now (opens c.args.uri.now c.args.version (chars c.args.text.now))
    (sym asked ∙ c.in_default.is)

pub returns-clause-accepts : goal.returns-clause-accepts
returns-clause-accepts g c =
    let fits : SFits w32 c.args.version = c.ranges.version in
    let asked = simp to_z-of_z at c.open_rule.ensures in
    let opened = simp to_z-of_z at c.in_ok-insert.ensures.held in
    let reaches = simp to_z-of_z at c.reach.ensures in
    let was = stated (terms_in c.self.inside.terms.limit c.self.inside.terms.kept
    c.self.inside.terms.line_ends) c.self.inside.documents.held c.self.inside.documents.kept
    c.self.inside.waiting in
    let uri = c.args.uri.now in
    let n = c.args.version in
    let t = chars c.args.text.now in
    let rule : rule_at was (opens uri n t) ≡ None =
    ap (λ s. rule_at s (opens uri n t)) c.self.view_is ∙ (sym asked ∙ c.in_default.is) in
    rw (← c.self.view_is) (accepts-opened was uri n t _ _ _ rule
    (opened ∙ ap (λ x. was.documents ++ record { uri = uri; version = versioned n x } ∷ [])
    c.in_ok-store.ensures) c.in_ok-insert.ensures.kept reaches)
