use Rattle.std.specs.Prelude.{codes, length, ◌++◌}
use Rattle.std.proofs.lemmas.Result.{err_from_is_err_and}
use Rattle.lsp_frame.proofs.Writing.{stopped_before, stopped_then}
use Rattle.lsp_log.proofs.Written.{writes_then}
use Rattle.lsp_extract.specs.Stream.{numbers}
use Rattle.lsp_extract.proofs.frames.write_kind_line.Goals as goal

pub returns-in_err-write_numbers : goal.returns-in_err-write_numbers
returns-in_err-write_numbers g c =
    let p = err_from_is_err_and c.from_residual.result c.from_residual.ensures.1 in
    rw p.1 (stopped_before _ _ (numbers c.args.frame (length c.args.content.now) (codes " "))
    (c.args.words.now ++ codes "\n") c.in_err-write_numbers.ensures)

pub returns-in_err-put_all : goal.returns-in_err-put_all
returns-in_err-put_all g c =
    let p = err_from_is_err_and c.from_residual-in_err-put_all.result
    c.from_residual-in_err-put_all.ensures.1 in
    rw p.1 (stopped_then _ _ _ (numbers c.args.frame (length c.args.content.now) (codes " "))
    (c.args.words.now ++ codes "\n") c.in_ok-write_numbers.ensures
    (stopped_before _ _ c.args.words.now (codes "\n") c.in_err-put_all.ensures))

pub returns : goal.returns
returns g c =
    writes_then _ _ _ c.put_all-2.result
    (numbers c.args.frame (length c.args.content.now) (codes " "))
    (c.args.words.now ++ codes "\n") c.in_ok-write_numbers.ensures
    (writes_then _ _ _ c.put_all-2.result c.args.words.now (codes "\n") c.in_ok-put_all.ensures
    c.put_all-2.ensures)
