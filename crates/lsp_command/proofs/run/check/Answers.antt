use Rattle.std.proofs.Common.{refl}
use Rattle.lsp_command.proofs.Endings.{passed, run_ended}
use Rattle.lsp_command.proofs.run.check.Goals as goal

pub returns-in-Verdict-Lines : goal.returns-in-Verdict-Lines
returns-in-Verdict-Lines g c =
    let arm = c.in-Verdict-Lines in
    let is = c.judge.ensures.checked in
    rw (arm.is-0, arm.is-1) (record { ran = run_ended _ _ _ _ _ refl is.writes.counts (_, refl, is) })

pub returns-in-Verdict-Json : goal.returns-in-Verdict-Json
returns-in-Verdict-Json g c =
    let arm = c.in-Verdict-Json in
    let is = c.run_check_json.ensures.json in
    rw (arm.is-0, arm.is-1) (record { ran = passed _ _ _ _ _ _ refl is (_, refl, is) })

pub returns-in-Line-Lines : goal.returns-in-Line-Lines
returns-in-Line-Lines g c =
    let arm = c.in-Line-Lines in
    let is = c.run_check_line.ensures.checked in
    rw (arm.is-0, arm.is-1) (record { ran = run_ended _ _ _ _ _ refl is.counts (_, refl, is) })

pub returns-in-Line-Json : goal.returns-in-Line-Json
returns-in-Line-Json g c =
    let arm = c.in-Line-Json in
    let is = c.run_check_object.ensures.checked in
    rw (arm.is-0, arm.is-1) (record { ran = run_ended _ _ _ _ _ refl is.counts (_, refl, is) })

pub returns-in-Offences-default : goal.returns-in-Offences-default
returns-in-Offences-default g c =
    let arm = c.in-Offences-default in
    let is = c.run_survey.ensures.passes in
    rw arm.is-0 (record { ran = passed _ _ _ _ _ _ refl is (_, refl, is) })
