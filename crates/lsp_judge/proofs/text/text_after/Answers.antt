use Rattle.std.proofs.Common.{◌∙◌, Some, ap, refl}
use Rattle.std.proofs.lemmas.Result.{err_from_is_err_and}
use Rattle.lsp_judge.proofs.TextRuns.{answer_is, text_broke, text_found, text_refused}
use Rattle.lsp_judge.proofs.text.text_after.Goals as goal

pub returns-in_ok-text-in-Ok : goal.returns-in_ok-text-in-Ok
returns-in_ok-text-in-Ok g c =
    text_found _ _ _ _ _ _ c.in-Ok.outcome _ _ (rw c.in-Ok.is at c.run_text.ensures.text)
    (ap Some c.new-bytes.ensures.items) refl
    (λ answer ends written. c.answer_of.ensures
    ∙ answer_is answer c.in-Ok.outcome c.in_ok-text-in-Ok.text ends
    (c.in_ok-text-in-Ok.ensures ∙ written))

pub returns-in_err-text-in-Ok : goal.returns-in_err-text-in-Ok
returns-in_err-text-in-Ok g c =
    let p = err_from_is_err_and c.from_residual.result c.from_residual.ensures.1 in
    rw (p.1, p.2) (text_refused _ _ _ _ _ _ c.in-Ok.outcome
    (rw c.in-Ok.is at c.run_text.ensures.text))

pub returns-in-Err : goal.returns-in-Err
returns-in-Err g c =
    text_broke _ _ _ _ _ _ c.in-Err.fault _ (rw c.in-Err.is at c.run_text.ensures.text)
    c.in_memory.ensures.source c.in_memory.ensures.unwritten
