use Rattle.std.proofs.Common.{refl}
use Rattle.lsp_command.proofs.Endings.{passed}
use Rattle.lsp_command.proofs.run.explain.Goals as goal

pub returns-in-Verdict : goal.returns-in-Verdict
returns-in-Verdict g c =
    let arm = c.in-Verdict in
    let is = c.run_explain.ensures.passes in
    rw arm.is (record { ran = passed _ _ _ _ _ _ refl is (_, refl, is) })

pub returns-in-All : goal.returns-in-All
returns-in-All g c =
    let arm = c.in-All in
    let is = c.run_explain_all.ensures.passes in
    rw arm.is (record { ran = passed _ _ _ _ _ _ refl is (_, refl, is) })

pub returns-in-AllWithNotes : goal.returns-in-AllWithNotes
returns-in-AllWithNotes g c =
    let arm = c.in-AllWithNotes in
    let is = c.run_explain_noted.ensures.passes in
    rw arm.is (record { ran = passed _ _ _ _ _ _ refl is (_, refl, is) })
