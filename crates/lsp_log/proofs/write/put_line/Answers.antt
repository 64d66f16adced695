use Rattle.std.proofs.Common.{◌∷◌, []}
use Rattle.std.proofs.lemmas.Result.{err_from_is_err_and}
use Rattle.lsp_frame.proofs.Writing.{stopped_before}
use Rattle.lsp_log.proofs.Written.{writes_then}
use Rattle.lsp_log.proofs.write.put_line.Goals as goal

pub returns-in_err-put_all : goal.returns-in_err-put_all
returns-in_err-put_all g c =
    let p = err_from_is_err_and c.from_residual.result c.from_residual.ensures.1 in
    rw p.1 (stopped_before _ _ c.args.bytes.now (10 ∷ []) c.in_err-put_all.ensures)

pub returns : goal.returns
returns g c = writes_then _ _ _ c.put_all-2.result c.args.bytes.now (10 ∷ []) c.in_ok-put_all.ensures c.put_all-2.ensures
