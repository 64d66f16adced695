use Rattle.std.proofs.Common.{◌∙◌, List, ℕ, ap, subst, sym}
use Rattle.lsp_trail.specs.Common.{applied, edits_of, findings}
use Rattle.lsp_text.specs.Edits.{IsFaultOf}
use Rattle.lsp_types.specs.declared.fault.Fault.{Fault}
use Rattle.lsp_notes.proofs.misfits.found_in.Goals as goal

-- all are made
pub returns-in-Ok : goal.returns-in-Ok
returns-in-Ok g c = λ text made.
    c.in-Ok.ensures.found
    ∙ ap (λ t. findings c.args.limit c.args.encoding t (edits_of c.args.changes.now))
    c.in_ok-copy.ensures

-- one fails, which none does
pub returns-in-Rule : goal.returns-in-Rule
returns-in-Rule g c = λ text made.
    let t = g.S.TextStore.content c.args.store.now in
    let cs = edits_of c.args.changes.now in
    let failed = subst (λ (x : List ℕ). IsFaultOf (applied c.args.limit c.args.encoding x cs)
    c.in-Err.failed.fault) c.in_ok-copy.ensures c.in-Err.ensures.fault in
    let broken = subst (λ (f : Fault). IsFaultOf (applied c.args.limit c.args.encoding t cs) f)
    c.in-Rule.is failed in
    absurd (cc (sym made ∙ broken))
