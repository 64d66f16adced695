use Rattle.std.proofs.Common.{refl}
use Rattle.std.proofs.lemmas.Result.{err_from_is_err_and}
use Rattle.lsp_log.proofs.AtFront.{full_window, head_stops, at_parts, head_front}
use Rattle.lsp_log.proofs.Parts.{parts_found}
use Rattle.lsp_log.proofs.found.record.Goals as goal

pub returns-in-64-clause-answer : goal.returns-in-64-clause-answer
returns-in-64-clause-answer g c =
    let line = rw c.in_default.is at c.in_ok-end.ensures.answer in
    full_window _ _ _ _ _ line.0 c.near.result.now line.1 line.2 c.near.ensures.value c.in-64.is

pub returns-in_err-head-clause-answer : goal.returns-in_err-head-clause-answer
returns-in_err-head-clause-answer g c =
    let p = err_from_is_err_and c.from_residual-in_err-head.result c.from_residual-in_err-head.ensures.1 in
    let line = rw c.in-Some.is at c.in_ok-end.ensures.answer in
    rw (p.1, p.2) (head_stops _ _ _ _ _ line.0 c.near-2.result.now c.in-Some.end _ line.1 line.3 c.near-2.ensures.value c.in_ok-end.ensures.short c.in_err-head.ensures)

pub returns-clause-answer : goal.returns-clause-answer
returns-clause-answer g c =
    let line = rw c.in-Some.is at c.in_ok-end.ensures.answer in
    let at = at_parts _ _ _ _ _ _ line.0 c.near-2.result.now c.in-Some.end c.in_ok-head.head line.1 line.3 c.near-2.ensures.value c.in_ok-head.ensures refl in
    let front = head_front _ _ c.near-2.result.now c.in-Some.end c.in_ok-head.head line.2 line.3 c.near-2.ensures.value c.in_ok-head.ensures in
    parts_found _ _ _ _ _ _ _ _ c.record_behind.result _ at front c.record_behind.ensures.line c.record_behind.ensures.answer
