use Rattle.std.proofs.Common.{◌≡◌, ◌+◌, [], ◌∷◌, ◌++◌, take, Ok, Err, ap, subst, get_or, ◌∙◌}
use Rattle.std.specs.Str.{chars}
use Rattle.lsp_docs.specs.Calls.{Text}
use Rattle.lsp_text.specs.Changes.{edits_of}
use Rattle.lsp_text.specs.Edits.{IsFaultOf, applied}
use Rattle.lsp_types.specs.declared.fault.Fault.{Fault}
use Rattle.lsp_facts.specs.Fact.{counts_in, fails}
use Rattle.lsp_facts.specs.DocumentFacts.{first_length}
use Rattle.lsp_facts.proofs.MadeChanges.{length_made, misfit_here}
use Rattle.lsp_facts.proofs.refused_change.misfit_at.Goals as goal

pub returns-in_ok-first_length-in-Ok : goal.returns-in_ok-first_length-in-Ok
returns-in_ok-first_length-in-Ok g c =
    let content = g.S.TextStore.content in
    let t = content c.args.store.now in
    let u = content c.change_all.new.store in
    let enc = c.args.encoding in
    let cs = c.args.changes.now in
    let n = c.args.count in
    let edit = get_or cs n c.index-changes-count.result in
    let is : edit ≡ get_or cs n edit = ap (get_or cs n) c.index-changes-count.is in
    let made = subst (λ (x : Text). applied c.args.limit enc x (edits_of (take n cs)) ≡ Ok u)
    c.in_ok-copy.ensures c.in-Ok.ensures.ok in
    c.in_ok-first_length-in-Ok.ensures
    ∙ (ap (λ l. l ++ first_length enc (chars c.as_str.result.now) edit.span)
    (c.in_ok-change.ensures ∙ ap (λ l. l ++ counts_in enc ∷ fails (n + 1) edit.span ∷ [])
    c.new-facts.ensures)
    ∙ (ap (λ (x : Text). counts_in enc ∷ fails (n + 1) edit.span ∷ first_length enc x edit.span)
    (ap chars c.as_str.ensures.value ∙ c.in_ok-text-in-Ok.ensures)
    ∙ misfit_here c.args.limit enc t cs n edit (first_length enc u edit.span) c.requires is
    (length_made c.args.limit enc t cs n edit.span (Ok u) made)))

pub returns-in-Rule : goal.returns-in-Rule
returns-in-Rule g c =
    let t = g.S.TextStore.content c.args.store.now in
    let enc = c.args.encoding in
    let cs = c.args.changes.now in
    let n = c.args.count in
    let edit = get_or cs n c.index-changes-count.result in
    let is : edit ≡ get_or cs n edit = ap (get_or cs n) c.index-changes-count.is in
    let failed = subst (λ (x : Text). IsFaultOf (applied c.args.limit enc x (edits_of (take n cs)))
    c.in-Err.failed.fault) c.in_ok-copy.ensures c.in-Err.ensures.fault in
    let broken = subst (λ (f : Fault). IsFaultOf (applied c.args.limit enc t
    (edits_of (take n cs))) f) c.in-Rule.is failed in
    c.in_ok-change.ensures
    ∙ (ap (λ l. l ++ counts_in enc ∷ fails (n + 1) edit.span ∷ []) c.new-facts.ensures
    ∙ misfit_here c.args.limit enc t cs n edit [] c.requires is
    (length_made c.args.limit enc t cs n edit.span (Err c.in-Rule.field-0) broken))
