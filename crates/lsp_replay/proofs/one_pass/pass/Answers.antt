use Rattle.std.proofs.lemmas.Result.{err_from_is_err_and}
use Rattle.lsp_replay.proofs.LastEvents.{unopened}
use Rattle.lsp_replay.proofs.one_pass.pass.Goals as goal

pub returns-in_err-reading-clause-passes : goal.returns-in_err-reading-clause-passes
returns-in_err-reading-clause-passes g c =
    let p = err_from_is_err_and c.from_residual.result c.from_residual.ensures.1 in
    rw (p.1, p.2) (unopened _ _ _ _ _ _ c.in_err-reading.ensures.err)

pub returns-clause-passes : goal.returns-clause-passes
returns-clause-passes g c = c.read_log.ensures _ c.in_ok-reading.ensures.ok.0
