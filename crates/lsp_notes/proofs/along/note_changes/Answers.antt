use Rattle.std.specs.Prelude.{option_map}
use Rattle.std.proofs.Common.{◌++◌, ◌∙◌, ap, append-nil, subst, sym}
use Rattle.std.proofs.lemmas.Result.{on_ok_weaker}
use Rattle.lsp_trail.specs.Common.{call_view, HasFate}
use Rattle.lsp_notes.specs.Behind.{is_on_behind}
use Rattle.lsp_notes.specs.Misfits.{AreMisfits}
use Rattle.lsp_notes.proofs.BehindSteps.{among_is}
use Rattle.lsp_notes.proofs.NotedSteps.{behind_finds_none, kept_is, refuted_is}
use Rattle.lsp_notes.proofs.along.note_changes.Goals as goal

-- its document is behind
pub returns-then-has : goal.returns-then-has
returns-then-has c = λ terms before h found are behind seen.
    let said = option_map call_view c.args.seen.now.call in
    let on = ap (is_on_behind terms before) (sym seen.says)
    ∙ sym (among_is terms c.args.behind.now before said behind)
    ∙ sym c.has.ensures ∙ c.if-has.true in
    subst (AreMisfits c.args.misfits.now)
    (sym (ap (λ l. found ++ l) (behind_finds_none terms before h on) ∙ append-nil found)) are

pub returns-in-Kept : goal.returns-in-Kept
returns-in-Kept c = on_ok_weaker c.note_kept.result (λ noted terms before h found are behind seen.
    let said = option_map call_view c.args.seen.now.call in
    let on = ap (is_on_behind terms before) (sym seen.says)
    ∙ sym (among_is terms c.args.behind.now before said behind)
    ∙ sym c.has.ensures ∙ c.if-has.false in
    let has = subst (HasFate terms before h) c.in-Kept.is seen.fate in
    subst (λ l. AreMisfits c.note_kept.new.self (found ++ l)) (kept_is terms before h on has.0)
    (noted terms before h found are seen)) c.note_kept.ensures

pub returns-in-Offends : goal.returns-in-Offends
returns-in-Offends c =
    on_ok_weaker c.note_refuted.result (λ noted terms before h found are behind seen.
    let said = option_map call_view c.args.seen.now.call in
    let on = ap (is_on_behind terms before) (sym seen.says)
    ∙ sym (among_is terms c.args.behind.now before said behind)
    ∙ sym c.has.ensures ∙ c.if-has.false in
    let has = subst (HasFate terms before h) c.in-Offends.is seen.fate in
    subst (λ l. AreMisfits c.note_refuted.new.self (found ++ l))
    (refuted_is terms before h on c.in-Offends.rule has.0)
    (noted terms before h found are seen has.0)) c.note_refuted.ensures
