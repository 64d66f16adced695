use Rattle.std.proofs.Common.{Some, refl}
use Rattle.lsp_judge.specs.JudgingRun.{JudgingAsked, a_report}
use Rattle.lsp_judge.proofs.Quiet.{judging_quiet}
use Rattle.lsp_judge.proofs.as_json.run_show_json.Goals as goal
use Rattle.lsp_verdict.specs.declared.completeness.Completeness.TheVariants.{Ignored}

pub pass-requires : goal.pass-requires
pass-requires g c =
    let asked : JudgingAsked =
    record { completeness = Ignored; lines = Some c.args.lines; form = a_report } in
    record { begins = λ terms. rw c.new-account.ensures (refl, judging_quiet asked) }

pub returns : goal.returns
returns g c = record { json = rw c.new-account.ensures at c.pass.ensures.passes }
