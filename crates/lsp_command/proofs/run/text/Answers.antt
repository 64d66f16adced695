use Rattle.std.proofs.Common.{refl}
use Rattle.lsp_command.proofs.Endings.{passed, run_ended}
use Rattle.lsp_command.proofs.run.text.Goals as goal

pub returns-in-First : goal.returns-in-First
returns-in-First g c =
    let arm = c.in-First in
    let is = rw c.get.ensures.value at c.run_text.ensures.text in
    rw arm.is (record { ran = run_ended _ _ _ _ _ refl is.counts (_, refl, is) })

pub returns-in-All : goal.returns-in-All
returns-in-All g c =
    let arm = c.in-All in
    let is = rw c.get-in-All.ensures.value at c.run_text_all.ensures.passes in
    rw arm.is (record { ran = passed _ _ _ _ _ _ refl is (_, refl, is) })
