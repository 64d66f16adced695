use Rattle.std.specs.Prelude.{is_some}
use Rattle.std.proofs.Common.{◌∙◌, ap, subst, sym}
use Rattle.lsp_types.specs.declared.fault.Fault.{Fault}
use Rattle.lsp_trail.specs.Common.{applied, edits_of, Findings, findings}
use Rattle.lsp_text.specs.Edits.{IsFaultOf}
use Rattle.lsp_origins.proofs.Fitting.{made_not, made_ok}
use Rattle.lsp_origins.proofs.fits.make.Goals as goal

-- all can be made
pub returns-in-Ok : goal.returns-in-Ok
returns-in-Ok c =
    let t = c.args.made.now.content in
    let cs = edits_of c.args.changes.now in
    made_ok (findings c.args.limit c.args.encoding t cs) (applied c.args.limit c.args.encoding t cs)
    c.is_none.result c.change_all.new.store.content
    (sym (ap (λ (f : Findings). is_some f.past_end) c.in-Ok.ensures.found) ∙ c.is_none.ensures)
    c.in-Ok.ensures.ok

-- one is refused
pub returns-in-Rule : goal.returns-in-Rule
returns-in-Rule c =
    let t = c.args.made.now.content in
    let cs = edits_of c.args.changes.now in
    made_not (findings c.args.limit c.args.encoding t cs) (applied c.args.limit c.args.encoding t cs)
    c.change_all.new.store.content c.in-Rule.field-0
    (subst (λ (f : Fault). IsFaultOf (applied c.args.limit c.args.encoding t cs) f) c.in-Rule.is
    c.in-Err.ensures.fault)
