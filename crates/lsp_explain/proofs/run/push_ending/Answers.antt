use Rattle.std.specs.Prelude.{map, slice_get}
use Rattle.std.proofs.Common.{◌∙◌, [], ap, sym}
use Rattle.lsp_trail.specs.Common.{heard_events, offence_view}
use Rattle.lsp_explain.proofs.Ending.{ending_none, ending_some, first_none, first_some}
use Rattle.lsp_origins.proofs.Telling.{stands_at}
use Rattle.lsp_explain.proofs.run.push_ending.Goals as goal

-- something is listed
pub returns-in-Some : goal.returns-in-Some
returns-in-Some c = λ terms heard trail clean stood few.
    let offence = c.in-Some.offence.now in
    let listed = c.in_ok-listed.ensures.listed terms heard stood few in
    let first = first_some c.in_ok-listed.field-0.listed.items offence
    (c.in-Some.ensures.value ∙ ap (λ xs. slice_get xs 0) c.deref.ensures.value) in
    ending_some c.args.completeness terms heard c.args.log.now c.args.end offence first.0 _ _ _ _
    (sym (ap (map offence_view) first.1) ∙ listed) stood.by
    (c.in_ok-push_end.ensures (heard_events heard) (stands_at _ terms heard trail stood))
    c.verdict.ensures

-- nothing is
pub returns : goal.returns
returns c = λ terms heard trail clean stood few.
    let listed = c.in_ok-listed.ensures.listed terms heard stood few in
    let none = first_none c.in_ok-listed.field-0.listed.items
    (c.in_default.ensures.value ∙ ap (λ xs. slice_get xs 0) c.deref.ensures.value) in
    ending_none c.args.completeness terms heard c.args.log.now c.args.end _ _ _ _ _
    (ap (map offence_view) (sym none) ∙ listed) c.in_ok-listed.ensures.bad
    (c.in_ok-verdict.ensures terms heard [] stood few c.new.ensures (λ empty. clean))
    c.in_ok-push_flaw.ensures
