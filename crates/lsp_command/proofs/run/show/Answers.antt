use Rattle.std.proofs.Common.{refl}
use Rattle.lsp_command.proofs.Endings.{passed, run_ended}
use Rattle.lsp_command.proofs.run.show.Goals as goal

pub returns-in-First-Lines : goal.returns-in-First-Lines
returns-in-First-Lines g c =
    let arm = c.in-First-Lines in
    let is = c.list.ensures.showed in
    rw (arm.is-0, arm.is-1) (record { ran = run_ended _ _ _ _ _ refl is.counts (_, refl, is) })

pub returns-in-First-Json : goal.returns-in-First-Json
returns-in-First-Json g c =
    let arm = c.in-First-Json in
    let is = c.run_show_json.ensures.json in
    rw (arm.is-0, arm.is-1) (record { ran = passed _ _ _ _ _ _ refl is (_, refl, is) })

pub returns-in-All-default : goal.returns-in-All-default
returns-in-All-default g c =
    let arm = c.in-All-default in
    let is = c.run_show_all.ensures.passes in
    rw arm.is-0 (record { ran = passed _ _ _ _ _ _ refl is (_, refl, is) })
