use Rattle.std.proofs.Common.{None, refl}
use Rattle.lsp_judge.specs.JudgingRun.{JudgingAsked, a_report}
use Rattle.lsp_judge.proofs.Quiet.{judging_quiet}
use Rattle.lsp_judge.proofs.as_json.run_check_json.Goals as goal

pub pass-requires : goal.pass-requires
pass-requires g c =
    let asked : JudgingAsked =
    record { completeness = c.args.completeness; lines = None; form = a_report } in
    record { begins = λ terms. rw c.new-account.ensures (refl, judging_quiet asked) }

pub returns : goal.returns
returns g c = record { json = rw c.new-account.ensures at c.pass.ensures.passes }
