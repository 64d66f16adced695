use Rattle.std.proofs.Common.{[], ◌∷◌, ◌++◌, Some, ap, sym, ◌∙◌}
use Rattle.std.specs.Prelude.{codes, slice_get}
use Rattle.lsp_replay.specs.Common.{edits_of, SyncKind}
use Rattle.lsp_verdict.specs.Report.{line, kind_name}
use Rattle.lsp_facts.specs.Fact.{Fact}
use Rattle.lsp_facts.specs.DocumentFacts.{misfit_facts}
use Rattle.lsp_facts.proofs.MadeChanges.{fitting_seen, no_misfit}
use Rattle.lsp_facts.proofs.refused_change.misfit.Goals as goal

-- how changes are sent
abbrev sent_so : SyncKind → Fact
sent_so kind = line (codes "sync" ∷ kind_name (Some kind) ∷ [])

pub returns-then-changes-count : goal.returns-then-changes-count
returns-then-changes-count g c =
    let t = g.S.TextStore.content c.args.store.now in
    let cs = c.args.changes.now in
    let n = c.count_fitting-count.result in
    let said : Fact = sent_so c.args.kind in
    c.in_ok-word.ensures.ok
    ∙ ((λ i. c.new-facts.ensures i ++ line (codes "sync" ∷ c.kind_name.ensures i ∷ []) ∷ [])
    ∙ (ap (λ l. said ∷ l) (sym (no_misfit c.args.limit c.args.encoding t cs n c.if-changes-count.true))
    ∙ ap (λ i. said ∷ misfit_facts c.args.limit c.args.encoding t (edits_of cs) i (slice_get (edits_of cs) i)) (c.count_fitting-count.ensures ∙ fitting_seen c.args.kind cs)))

pub returns : goal.returns
returns g c =
    let t = g.S.TextStore.content c.args.store.now in
    let cs = c.args.changes.now in
    let said : Fact = sent_so c.args.kind in
    c.in_ok-append.ensures
    ∙ (ap (λ l. l ++ c.in_ok-misfit_at.field-0) (c.in_ok-word.ensures.ok
    ∙ (λ i. c.new-facts.ensures i ++ line (codes "sync" ∷ c.kind_name.ensures i ∷ []) ∷ []))
    ∙ (ap (λ l. said ∷ l) c.in_ok-misfit_at.ensures
    ∙ ap (λ i. said ∷ misfit_facts c.args.limit c.args.encoding t (edits_of cs) i (slice_get (edits_of cs) i)) (c.count_fitting-count.ensures ∙ fitting_seen c.args.kind cs)))
