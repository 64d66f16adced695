use Rattle.std.proofs.Common.{refl}
use Rattle.lsp_command.proofs.Endings.{passed, run_ended}
use Rattle.lsp_command.proofs.run.rewrite.Goals as goal

pub returns-in-Normal : goal.returns-in-Normal
returns-in-Normal g c =
    let arm = c.in-Normal in
    let is = c.run_normal.ensures.normalized in
    rw arm.is (record { ran = run_ended _ _ _ _ _ refl is.counts (_, refl, is) })

pub returns-in-Upgrade : goal.returns-in-Upgrade
returns-in-Upgrade g c =
    let arm = c.in-Upgrade in
    let is = c.run_upgrade.ensures.upgraded in
    rw arm.is (record { ran = run_ended _ _ _ _ _ refl is.counts (_, refl, is) })

pub returns-in-Redact : goal.returns-in-Redact
returns-in-Redact g c =
    let arm = c.in-Redact in
    let is = c.run_redact.ensures.passes in
    rw arm.is (record { ran = passed _ _ _ _ _ _ refl is (_, refl, is) })
